use Rattle.cell_laws.proofs.Carry.{waited_made, stepped_made, made_made}
use Rattle.cell_laws.proofs.InOrder.{made_in_order, fits_first}
use Rattle.cell_laws.proofs.laws.made.Goals as goal

pub returns : goal.returns
returns c = record { wait = λ old new w l. waited_made w l; step = λ old new s r st p. stepped_made st p; joins = λ a b d xs ys x y. made_made x y; stands = λ old new own h m f. made_in_order h m f; first = fits_first }
