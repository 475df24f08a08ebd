-- A query that is asked over stored points is answered over them.
use Rattle.std.proofs.Common.{◌≡◌, inr, ⊎_elim, ℕ, ◌+◌, ◌≤◌, Bool, true, false, List, [], ◌∷◌, refl, sym, ap, subst, ◌∙◌, arith}
use Rattle.std.specs.Prelude.{Some, IsTrue, Contains, filter, map, nat_le, if◌then◌else◌, option_and_then}
use Rattle.row_key.specs.Made.{three}
use Rattle.tsd_base.specs.Alphabet.{IsName}
use Rattle.tsd_base.specs.Points.{DataPoint}
use Rattle.tsd_base.specs.LastPoints.{last_points}
use Rattle.tsd_base.specs.declared.kinds.Kind.{Kind}
use Rattle.cell_model.specs.declared.events.Entry.{Entry}
use Rattle.cell_model.specs.declared.events.Placed.{Placed}
use Rattle.cell_model.specs.declared.events.Step.{Step}
use Rattle.cell_model.specs.declared.events.Step.TheVariants.{Open, Read, NextRow, Bump, Claim, PutPoint, AppendPoint, PutMerged, DropCells}
use Rattle.cell_model.specs.Deeds.{Made, before_first}
use Rattle.cell_model.specs.History.{History, Had, base_of, entry_at, first, len, store_after}
use Rattle.cell_model.specs.History.History.{Base, Then}
use Rattle.cell_model.specs.IdRows.{id_number, id_of, name_of, name_row}
use Rattle.cell_model.specs.Lawful.{IsLawful}
use Rattle.cell_model.specs.Machine.{after, kind_qual}
use Rattle.cell_model.specs.Readings.{Reading, Accepted, HasReading, IsPut, Meets, OneValued, reading_of}
use Rattle.cell_model.specs.Seen.{Seen, Fits}
use Rattle.cell_model.specs.Store.{Store, no_cells, value_at}
use Rattle.series_groups.specs.QueryAnswers.{answer}
use Rattle.query_run.specs.AskedQueries.{as_point}
use Rattle.query_run.specs.Laws.{AnswerIsUnordered}
use Rattle.metric_scan.specs.Parts.{AreQuerySteps, IsQueryStep, Part}
use Rattle.query_text.specs.declared.queries.Query.{Query}
use Rattle.query_text.specs.declared.queries.Sub.{Sub}
use Rattle.row_scan.specs.RowReadings.{Chosen, Covers}
pub use Rattle.point_lines.proofs.CallerLemmas.{base_of_first}
use Rattle.batch_job.specs.NotedIds.{id_in, list_of}
use Rattle.batch_job.specs.Storing.{HasOnlyPuts, IsOtherWrite, IsStored, Puts, WasPut}
use Rattle.cell_laws.proofs.CallerLemmas.{base_widths, nothing}
use Rattle.batch_job.proofs.Entering.{IsQuiet, PutNothing, put_nothing, only_puts_follow}
use Rattle.point_lines.proofs.CallerLemmas.{Went, follow, went}
use Rattle.batch_job.proofs.Lower.{deeds_each, entry_at-more, here, in_filter, in_map, map_in, there, to_filter}

-- ---- the steps of a query
query_step : (s : Step) → IsQueryStep s → IsQuiet s
query_step Open q = tt
query_step (Read row) q = tt
query_step (NextRow table from to) q = tt
query_step (Bump kind) q = tt
query_step (Claim row qual value) q = tt
query_step (PutPoint point row qual value) q = q
query_step (AppendPoint point row piece) q = q
query_step (PutMerged row qual value) q = q
query_step (DropCells row which) q = q

step_keeps : (s : Store) (place : ℕ) (step : Step) → IsQueryStep step → after s place step ≡ s
step_keeps s place Open q = refl
step_keeps s place (Read row) q = refl
step_keeps s place (NextRow table from to) q = refl
step_keeps s place (Bump kind) q = absurd q
step_keeps s place (Claim row qual value) q = absurd q
step_keeps s place (PutPoint point row qual value) q = absurd q
step_keeps s place (AppendPoint point row piece) q = absurd q
step_keeps s place (PutMerged row qual value) q = absurd q
step_keeps s place (DropCells row which) q = absurd q

query_puts_nothing : (list : List Placed) → AreQuerySteps list → PutNothing list
query_puts_nothing list steps d has = query_step d.entry.step (steps d has)

pub query_keeps : (h : History) (list : List Placed) → AreQuerySteps list → store_after (follow h list) ≡ store_after h
query_keeps h [] steps = refl
query_keeps h (d ∷ list) steps =
    query_keeps (Then h d.entry) list (λ x has. steps x (there d x list has)) ∙ step_keeps (store_after h) (len h + 1) d.entry.step (steps d (here d list))

-- ---- earlier parts of a history
entry_of_first : (h : History) (n place : ℕ) (e : Entry) → entry_at (first n h) place ≡ Some e → entry_at h place ≡ Some e
entry_of_first (Base b) n place e is = is
entry_of_first (Then h x) n place e is = at (λ got. entry_at-more h x e place (entry_of_first h n place e got)) (nat_le (len h + 1) n) is
  where
    at : (entry_at (first n h) place ≡ Some e → entry_at (Then h x) place ≡ Some e) → (t : Bool) → entry_at (if t then Then h x else first n h) place ≡ Some e → entry_at (Then h x) place ≡ Some e
    at rest true got = got
    at rest false got = rest got

longer : (h : History) (n m place : ℕ) (e : Entry) → n ≤ m → entry_at (first n h) place ≡ Some e → entry_at (first m h) place ≡ Some e
longer (Base b) n m place e le is = is
longer (Then h x) n m place e le is = at (λ got. longer h n m place e le got) (nat_le (len h + 1) m) refl is
  where
    at : (entry_at (first n h) place ≡ Some e → entry_at (first m h) place ≡ Some e) → (t : Bool) → nat_le (len h + 1) m ≡ t → entry_at (first n (Then h x)) place ≡ Some e → entry_at (if t then Then h x else first m h) place ≡ Some e
    at rest true eq got = entry_of_first (Then h x) n place e got
    at rest false eq got =
        let low : nat_le (len h + 1) n ≡ false = grind (arith, eq, le) in
        rest (subst (λ t. entry_at (if t then Then h x else first n h) place ≡ Some e) low got)

put_longer : (h : History) (n m : ℕ) (r : DataPoint) → n ≤ m → WasPut (first n h) r → WasPut (first m h) r
put_longer h n m r le p = (p.0, (p.1.0, longer h n m p.1.0 p.0 le p.1.1), p.2)

-- ---- points and their readings
-- a point of this reading was put or appended
abbrev pub ReadingWasPut : History → Reading → Type 0
ReadingWasPut h r = (e : Entry) × Had h e × IsPut e.step r

point_of_put : (s : Step) (r : Reading) → (IsOtherWrite s → ⊥) → IsPut s r → (p : DataPoint) × Puts s p × (reading_of p ≡ r)
point_of_put Open r other is = absurd is
point_of_put (Read row) r other is = absurd is
point_of_put (NextRow table from to) r other is = absurd is
point_of_put (Bump kind) r other is = absurd is
point_of_put (Claim row qual value) r other is = absurd is
point_of_put (PutPoint point row qual value) r other is = (point, refl, is)
point_of_put (AppendPoint point row piece) r other is = absurd (other tt)
point_of_put (PutMerged row qual value) r other is = absurd is
point_of_put (DropCells row which) r other is = absurd is

put_of_point : (s : Step) (p : DataPoint) → Puts s p → IsPut s (reading_of p)
put_of_point Open p is = absurd is
put_of_point (Read row) p is = absurd is
put_of_point (NextRow table from to) p is = absurd is
put_of_point (Bump kind) p is = absurd is
put_of_point (Claim row qual value) p is = absurd is
put_of_point (PutPoint point row qual value) p is = ap reading_of is
put_of_point (AppendPoint point row piece) p is = absurd is
put_of_point (PutMerged row qual value) p is = absurd is
put_of_point (DropCells row which) p is = absurd is

point_put : (h : History) (r : Reading) → HasOnlyPuts h → ReadingWasPut h r → (p : DataPoint) × WasPut h p × (reading_of p ≡ r)
point_put h r only put = let p = point_of_put put.0.step r (only put.0 put.1) put.2 in (p.0, (put.0, put.1, p.1), p.2)

reading_put : (h : History) (p : DataPoint) → WasPut h p → ReadingWasPut h (reading_of p)
reading_put h p put = (put.0, put.1, put_of_point put.0.step p put.2)

-- over an empty base what was accepted was put or appended
accepted_put : (h : History) (n : ℕ) (r : Reading) → base_of h ≡ no_cells three → Accepted (first n h) r → ReadingWasPut (first n h) r
accepted_put h n r base either = ⊎_elim
    (λ (has : HasReading (name_of (first n h)) (base_of (first n h)) r).
    let none = subst (λ (s : Store). HasReading (name_of (first n h)) s r) (base_of_first h n ∙ base) has in
    absurd (nothing three _ none.qual none.value none.stands))
    (λ (put : ReadingWasPut (first n h) r). put)
    either

-- ---- what is wanted of the last points
abbrev pub wanted_points : (Reading → Bool) → List DataPoint → List DataPoint
wanted_points want points = filter (λ p. want (reading_of p)) (last_points points)

module _ (want : Reading → Bool) (points : List DataPoint) where
  pub last_of_wanted : (p : DataPoint) → Contains (wanted_points want points) p → Contains (last_points points) p
  last_of_wanted p has = (in_filter (λ p. want (reading_of p)) (last_points points) p has).0

  -- readings of the last points that are wanted
  pub reading_wanted : (r : Reading) → Contains (map reading_of (last_points points)) r → IsTrue (want r) → Contains (map reading_of (wanted_points want points)) r
  reading_wanted r has wanted =
      let p = map_in reading_of (last_points points) r has in
      let passes : want (reading_of p.0) ≡ true = subst (λ (x : Reading). IsTrue (want x)) (sym p.2) wanted in
      subst (Contains (map reading_of (wanted_points want points))) p.2 (in_map reading_of (wanted_points want points) p.0 (to_filter (λ p. want (reading_of p)) (last_points points) p.0 p.1 passes))

  pub wanted_reading : (r : Reading) → Contains (map reading_of (wanted_points want points)) r → Contains (map reading_of (last_points points)) r × IsTrue (want r)
  wanted_reading r has =
      let p = map_in reading_of (wanted_points want points) r has in
      let f = in_filter (λ p. want (reading_of p)) (last_points points) p.0 p.1 in (
        subst (Contains (map reading_of (last_points points))) p.2 (in_map reading_of (last_points points) p.0 f.0),
        subst (λ (x : Reading). IsTrue (want x)) p.2 f.1,
      )

-- ---- the part of the query
module _ (points : List DataPoint) (old new : Seen) (list : List Placed) (stored : IsStored points old) (made : Made old list new) (steps : AreQuerySteps list) (h : History) (lawful : IsLawful h) (fits : Fits new h) where
  w : Went old list new h
  w = went three old new list h made stored.by lawful fits

  pub base_is : base_of h ≡ no_cells three
  base_is = fits.base ∙ made.since.extends.base ∙ stored.by.base

  pub three_wide : (n : ℕ) → (store_after (first n h)).widths ≡ three
  three_wide n = sym (base_widths (first n h)) ∙ ap (λ (s : Store). s.widths) (base_of_first h n ∙ base_is)

  -- nothing was put by the query
  put_before_it : (r : DataPoint) → WasPut (first new.length h) r → WasPut (first old.length h) r
  put_before_it r p = put_nothing (first old.length h) list (query_puts_nothing list steps) r (subst (λ x. WasPut x r) w.after_is p)

  -- nor appended, merged or dropped
  pub only_puts_after : HasOnlyPuts (first new.length h)
  only_puts_after = subst HasOnlyPuts (sym w.after_is) (only_puts_follow (first old.length h) list (query_puts_nothing list steps) (stored.only_puts h lawful w.fitted))

  -- what was put is one of the last points, and each of them was put before the query
  pub put_is_last : (p : DataPoint) → WasPut (first new.length h) p → Contains (last_points points) p
  put_is_last p put = (stored.puts h lawful w.fitted p).0 (put_before_it p put)

  pub last_point_put : (n : ℕ) (p : DataPoint) → old.length ≤ n → Contains (last_points points) p → WasPut (first n h) p
  last_point_put n p le has = put_longer h old.length n p le ((stored.puts h lawful w.fitted p).1 has)

  -- so a reading that was accepted is one of the last points
  pub accepted_last : (r : Reading) → Accepted (first new.length h) r → Contains (map reading_of (last_points points)) r
  accepted_last r accepted =
      let p = point_put (first new.length h) r only_puts_after (accepted_put h new.length r base_is accepted) in
      subst (Contains (map reading_of (last_points points))) p.2 (in_map reading_of (last_points points) p.0 (put_is_last p.0 p.1))

  -- and each of them was put before the query
  pub last_put : (n : ℕ) (r : Reading) → old.length ≤ n → Contains (map reading_of (last_points points)) r → ReadingWasPut (first n h) r
  last_put n r le has =
      let p = map_in reading_of (last_points points) r has in
      subst (ReadingWasPut (first n h)) p.2 (reading_put (first n h) p.0 (last_point_put n p.0 le p.1))

  pub ids_stand : (kind : Kind) (name : List ℕ) → id_of (first new.length h) kind name ≡ id_of (first old.length h) kind name
  ids_stand kind name =
      ap (λ x. id_of x kind name) w.after_is ∙ ap (λ (s : Store). option_and_then id_number (value_at s (name_row name) (kind_qual kind))) (query_keeps (first old.length h) list steps)

  -- the ids are the places of the names
  pub ids_are : (kind : Kind) (name : List ℕ) → IsName name → id_of (first new.length h) kind name ≡ id_in (list_of stored.names kind) name
  ids_are kind name is = ids_stand kind name ∙ stored.ids h lawful w.fitted kind name is

  pub after_old : (own : List Placed) → own ≡ list → old.length ≤ before_first own new.length
  after_old [] is = made.since.extends.length
  after_old (p ∷ own) is =
      let d = deeds_each h old.caller old.length new.length p (subst (λ (xs : List Placed). Contains xs p) (is ∙ sym (made.made h fits)) (here p own)) in
      let above = d.above in
      omega (arith, above)

  pub before_now : (own : List Placed) → own ≡ list → before_first own new.length ≤ new.length
  before_now [] is = omega arith
  before_now (p ∷ own) is =
      let d = deeds_each h old.caller old.length new.length p (subst (λ (xs : List Placed). Contains xs p) (is ∙ sym (made.made h fits)) (here p own)) in
      let within = d.within in
      omega (arith, within)

  module _ (want : Reading → Bool) (metric : List ℕ) (of_metric : (r : Reading) → IsTrue (want r) → r.metric ≡ metric) (part : Part) (own_is : part.own ≡ list)
      (covers : Covers (Contains part.shown) (Chosen want (Accepted (first (before_first part.own new.length) h))) (Chosen want (Accepted (first new.length h)))) where
    shown_wanted : (r : Reading) → Contains part.shown r → Contains (map reading_of (wanted_points want points)) r
    shown_wanted r has =
        let a = covers.within r has in
        reading_wanted want points r (accepted_last r a.0) a.1

    module _ (single : OneValued (Contains (map reading_of (wanted_points want points)))) where
      wanted_shown : (r : Reading) → Contains (map reading_of (wanted_points want points)) r → Contains part.shown r
      wanted_shown r has =
          let k = wanted_reading want points r has in
          let put : ReadingWasPut (first (before_first part.own new.length) h) r = last_put (before_first part.own new.length) r (after_old part.own own_is) k.0 in
          let q = covers.each r (inr put, k.1) in
          let value : r.value ≡ q.0.value = single r q.0 has (shown_wanted q.0 q.1) q.2 in
          let same : q.0 ≡ r = λ i. record { metric = sym q.2.metric i; tags = sym q.2.tags i; time = sym q.2.time i; value = sym value i } in
          subst (Contains part.shown) same q.1

      -- so the answer over what was shown is the answer over the points
      pub answer_is : AnswerIsUnordered → (q : Query) (s : Sub) → answer q s (map as_point part.shown) ≡ answer q s (wanted_points want points)
      answer_is unordered q s =
          unordered q s (map as_point part.shown) (wanted_points want points)
          (λ r. (
            λ has. shown_wanted r (subst (λ (rs : List Reading). Contains rs r) (back part.shown) has),
            λ has. subst (λ (rs : List Reading). Contains rs r) (sym (back part.shown)) (wanted_shown r has),
          ))
          (λ x y xin yin tags time.
          let a = map_in as_point part.shown x xin in
          let b = map_in as_point part.shown y yin in
          let ka = wanted_reading want points a.0 (shown_wanted a.0 a.1) in
          let kb = wanted_reading want points b.0 (shown_wanted b.0 b.1) in
          let m : Meets a.0 b.0 = record {
            metric = of_metric a.0 ka.1 ∙ sym (of_metric b.0 kb.1);
            tags = ap (λ (z : DataPoint). z.tags) a.2 ∙ tags ∙ sym (ap (λ (z : DataPoint). z.tags) b.2);
            time = ap (λ (z : DataPoint). z.time) a.2 ∙ time ∙ sym (ap (λ (z : DataPoint). z.time) b.2);
          } in
          sym (ap (λ (z : DataPoint). z.value) a.2) ∙ single a.0 b.0 (shown_wanted a.0 a.1) (shown_wanted b.0 b.1) m ∙ ap (λ (z : DataPoint). z.value) b.2)
        where
          back : (rs : List Reading) → map reading_of (map as_point rs) ≡ rs
          back [] = refl
          back (r ∷ rs) = ap (λ xs. r ∷ xs) (back rs)
