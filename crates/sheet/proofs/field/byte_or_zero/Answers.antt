-- Past the end the byte is 0.
use Rattle.laws.proofs.Prelude.{sym, List·getD-eq-default}
use Rattle.sheet.proofs.field.byte_or_zero.Goals as goal

pub returns : goal.returns
returns c = sym (List·getD-eq-default c.args.bytes.now 0 c.if-i-bytes.false)
