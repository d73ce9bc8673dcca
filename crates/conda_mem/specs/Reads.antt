-- The last reads of the stores that came back. This project's own.
use Rattle.std.specs.Prelude.{List, [], ◌++◌}
use Rattle.std.specs.Option.{option_to_list}
use Rattle.conda_device.specs.declared.touched.Got.{Got}
use Rattle.conda_mem.specs.declared.gots.Chain.{Chain, End, More'}

-- in the order in which they came back
abbrev pub reads_of : Chain → List Got
reads_of End = []
reads_of (More' got place before) = reads_of before ++ option_to_list got
