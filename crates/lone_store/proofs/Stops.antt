-- Waiting without a step, and counts of stops that are added.
use Rattle.std.proofs.Common.{◌≡◌, ◌≢◌, ℕ, ◌+◌, Result, Ok, Err, IfErr, refl, subst, arith}
use Rattle.tsd_io.specs.Causes.{Rose}
use Rattle.cell_model.specs.declared.answers.RowsFault.{RowsFault}
use Rattle.cell_model.specs.declared.answers.RowsFault.TheVariants.{OutOfMemory, Stopped}
use Rattle.cell_model.specs.Seen.{Seen, Waited, RoseIfStopped, StandsIfUnstopped}

pub waits_none : (s : Seen) → Waited s s
waits_none s = record { base = refl; caller = refl; absorbed = refl; length = omega arith; kept = λ place e saw. saw; no_own = λ place e saw own. saw; alone = refl; still = λ a. refl }

-- where the halt's count stands, both together rise as the rows' does
pub rose_together : {T : Type 0} (halt halt2 rows rows2 : ℕ) (result : Result T RowsFault) → halt2 ≡ halt → IfErr result (RoseIfStopped rows rows2) → IfErr result (RoseIfStopped (halt + rows) (halt2 + rows2))
rose_together halt halt2 rows rows2 (Ok x) same rose = tt
rose_together halt halt2 rows rows2 (Err OutOfMemory) same rose = tt
rose_together halt halt2 rows rows2 (Err Stopped) same rose = omega (arith, same, rose)

-- where the rows' count moved, they answered that the caller is stopped
pub stop_is_told : {T : Type 0} (rows rows2 : ℕ) (result : Result T RowsFault) → StandsIfUnstopped rows rows2 result → rows2 ≢ rows → result ≡ Err Stopped
stop_is_told rows rows2 (Ok x) stands moved = absurd (moved stands)
stop_is_told rows rows2 (Err OutOfMemory) stands moved = absurd (moved stands)
stop_is_told rows rows2 (Err Stopped) stands moved = refl

-- a stop has its cause
pub stop_rose : {T : Type 0} (rows rows2 : ℕ) (result : Result T RowsFault) → IfErr result (RoseIfStopped rows rows2) → result ≡ Err Stopped → Rose rows rows2
stop_rose rows rows2 result rose stopped = subst (λ r. IfErr r (RoseIfStopped rows rows2)) stopped rose
