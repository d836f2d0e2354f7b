-- `put_bytes`: as many bytes of s as there are places are copied.
use Rattle.std.proofs.Common.{refl}
use Rattle.text.proofs.OutputLaws.{over-cut}
use Rattle.text.proofs.output.put_bytes.Goals as goal

pub returns : goal.returns
returns c = (refl, rw c.copy_from_slice.ensures.after (over-cut _ _ c.min-n.result c.min-n.ensures))
