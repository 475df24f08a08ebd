-- What one more entry makes of a store, and of the points that were put.
use Rattle.std.proofs.Common.{◌≡◌, ◌⊎◌, inl, inr, ◌+◌, Bool, true, false, List, [], ◌∷◌, sym, subst}
use Rattle.std.specs.Prelude.{Some, nat_eq, if◌then◌else◌, Contains}
use Rattle.tsd_base.specs.Points.{DataPoint}
use Rattle.cell_model.specs.declared.events.Entry.{Entry}
use Rattle.cell_model.specs.declared.events.Placed.{Placed}
use Rattle.cell_model.specs.declared.events.Step.{Step}
use Rattle.cell_model.specs.declared.events.Step.TheVariants.{Open, Read, NextRow, Bump, Claim, PutPoint, AppendPoint, PutMerged, DropCells}
use Rattle.cell_model.specs.History.{History, Had, len, entry_at}
use Rattle.cell_model.specs.History.History.{Then}
use Rattle.batch_job.specs.Storing.{HasOnlyPuts, IsOtherWrite, Puts, WasPut}
use Rattle.point_lines.proofs.CallerLemmas.{follow}
use Rattle.batch_job.proofs.Lower.{entry_at-last, entry_at-more, here, there, not_in, split}

-- ---- points that were put
pub put_stays : (h : History) (e : Entry) (r : DataPoint) → WasPut h r → WasPut (Then h e) r
put_stays h e r p = (p.0, (p.1.0, entry_at-more h e p.0 p.1.0 p.1.1), p.2)

pub put_last : (h : History) (e : Entry) (r : DataPoint) → Puts e.step r → WasPut (Then h e) r
put_last h e r p = (e, (len h + 1, entry_at-last h e), p)

entry_is : (a b : Entry) → Some a ≡ Some b → a ≡ b
entry_is a b e = cc

pub put_before : (h : History) (e : Entry) (r : DataPoint) → WasPut (Then h e) r → WasPut h r ⊎ Puts e.step r
put_before h e r p = at (nat_eq p.1.0 (len h + 1)) p.1.1
  where
    at : (b : Bool) → (if b then Some e else entry_at h p.1.0) ≡ Some p.0 → WasPut h r ⊎ Puts e.step r
    at true is = inr (subst (λ (x : Entry). Puts x.step r) (sym (entry_is e p.0 is)) p.2)
    at false is = inl (p.0, (p.1.0, is), p.2)

-- the step neither puts or appends a point nor merges or drops cells
abbrev pub IsQuiet : Step → Type 0
IsQuiet (PutPoint point row qual value) = ⊥
IsQuiet (AppendPoint point row piece) = ⊥
IsQuiet (PutMerged row qual value) = ⊥
IsQuiet (DropCells row which) = ⊥
IsQuiet _ = Unit {0}

quiet_puts : (step : Step) → IsQuiet step → (p : DataPoint) → Puts step p → ⊥
quiet_puts Open q p put = put
quiet_puts (Read row) q p put = put
quiet_puts (NextRow table from to) q p put = put
quiet_puts (Bump kind) q p put = put
quiet_puts (Claim row qual value) q p put = put
quiet_puts (PutPoint point row qual value) q p put = q
quiet_puts (AppendPoint point row piece) q p put = q
quiet_puts (PutMerged row qual value) q p put = q
quiet_puts (DropCells row which) q p put = q

quiet_writes : (step : Step) → IsQuiet step → IsOtherWrite step → ⊥
quiet_writes Open q c = c
quiet_writes (Read row) q c = c
quiet_writes (NextRow table from to) q c = c
quiet_writes (Bump kind) q c = c
quiet_writes (Claim row qual value) q c = c
quiet_writes (PutPoint point row qual value) q c = q
quiet_writes (AppendPoint point row piece) q c = q
quiet_writes (PutMerged row qual value) q c = q
quiet_writes (DropCells row which) q c = q

-- all entries are so
abbrev pub PutNothing : List Placed → Type 0
PutNothing list = (d : Placed) → Contains list d → IsQuiet d.entry.step

pub nothing_by : (d : Placed) (step : Step) → d.entry.step ≡ step → IsQuiet step → IsQuiet d.entry.step
nothing_by d step is quiet = subst IsQuiet (sym is) quiet

pub puts_stay : (h : History) (list : List Placed) (r : DataPoint) → WasPut h r → WasPut (follow h list) r
puts_stay h [] r p = p
puts_stay h (d ∷ list) r p = puts_stay (Then h d.entry) list r (put_stays h d.entry r p)

pub put_nothing : (h : History) (list : List Placed) → PutNothing list → (r : DataPoint) → WasPut (follow h list) r → WasPut h r
put_nothing h [] never r p = p
put_nothing h (d ∷ list) never r p = at (put_before h d.entry r (put_nothing (Then h d.entry) list (λ x c. never x (there d x list c)) r p))
  where
    at : WasPut h r ⊎ Puts d.entry.step r → WasPut h r
    at (inl before) = before
    at (inr put) = absurd (quiet_puts d.entry.step (never d (here d list)) r put)

pub nothing_nil : PutNothing []
nothing_nil d c = absurd (not_in d c)

pub nothing_more : (d : Placed) (list : List Placed) → IsQuiet d.entry.step → PutNothing list → PutNothing (d ∷ list)
nothing_more d list never rest x c = at (split d x list c)
  where
    at : (d ≡ x) ⊎ Contains list x → IsQuiet x.entry.step
    at (inl same) = subst (λ (y : Placed). IsQuiet y.entry.step) same never
    at (inr later) = rest x later

-- ---- histories whose cells of points come of puts alone
pub had_before : (h : History) (last e : Entry) → Had (Then h last) e → (last ≡ e) ⊎ Had h e
had_before h last e had = at (nat_eq had.0 (len h + 1)) had.1
  where
    at : (b : Bool) → (if b then Some last else entry_at h had.0) ≡ Some e → (last ≡ e) ⊎ Had h e
    at true is = inl (entry_is last e is)
    at false is = inr (had.0, is)

pub only_puts_then : (h : History) (e : Entry) → (IsOtherWrite e.step → ⊥) → HasOnlyPuts h → HasOnlyPuts (Then h e)
only_puts_then h e never before x had = at (had_before h e x had)
  where
    at : (e ≡ x) ⊎ Had h x → IsOtherWrite x.step → ⊥
    at (inl same) = subst (λ (y : Entry). IsOtherWrite y.step → ⊥) same never
    at (inr earlier) = before x earlier

pub only_puts_follow : (h : History) (list : List Placed) → PutNothing list → HasOnlyPuts h → HasOnlyPuts (follow h list)
only_puts_follow h [] quiet before = before
only_puts_follow h (d ∷ list) quiet before = only_puts_follow (Then h d.entry) list (λ x c. quiet x (there d x list c)) (only_puts_then h d.entry (quiet_writes d.entry.step (quiet d (here d list))) before)
