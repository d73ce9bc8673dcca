use Rattle.std.proofs.Common.{◌≡◌, length, arith, subst}
use Rattle.hex.proofs.HexLemmas.{decode_sized-encode_lower}
use Rattle.hex.specs.Hex.{IsBytes}
use Rattle.conda_meta.proofs.writing.digest_text.Goals as goal

pub returns-clause-again : goal.returns-clause-again
returns-clause-again c =
    let long : length c.args.digest.now.bytes ≡ 32 = omega arith in
    decode_sized-encode_lower c.args.digest.now.bytes 32 long (subst IsBytes c.as_slice.ensures c.hex_text.ensures.bytes)
