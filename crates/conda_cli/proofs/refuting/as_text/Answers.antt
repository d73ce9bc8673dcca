use Rattle.std.proofs.Common.{ap, arith, length, subst, sym}
use Rattle.std.proofs.lemmas.Bool.{false≢true}
use Rattle.std.proofs.lemmas.List.{with_items_is}
use Rattle.std.proofs.lemmas.Str.{IsUtf8-from_ascii}
use Rattle.std.specs.Str.{IsAscii, IsUtf8}
use Rattle.conda_cli.proofs.LogLemmas.{ascii_made}
use Rattle.conda_cli.proofs.refuting.as_text.Goals as goal

pub unreachable-requires : goal.unreachable-requires
unreachable-requires c =
    let made = c.make_ascii.new.bytes in
    let same = with_items_is c.args.bytes made (omega (arith, ap length c.as_mut_slice.ensures.value)) in
    let text = IsUtf8-from_ascii made (subst IsAscii (sym c.make_ascii.ensures) (ascii_made c.as_mut_slice.result.now)) in
    absurd (false≢true (c.in-Err.ensures.succeeds (subst IsUtf8 (sym same) text)))
