-- How many entries a sub query makes.
use Rattle.std.proofs.Common.{◌≡◌, inl, inr, ℕ, ◌≤◌, List, [], ◌∷◌, ◌++◌, length, ap, subst, arith, length-append}
use Rattle.std.specs.Prelude.{Contains, Some, map}
use Rattle.std.proofs.lemmas.List.{length-map}
use Rattle.list_lemmas.proofs.ListCuts.{fewer}
use Rattle.tsd_base.specs.declared.kinds.Kind.TheVariants.{Metric, TagKey, TagValue}
use Rattle.cell_model.specs.declared.row.Row.{Row}
use Rattle.cell_model.specs.declared.row.Found.{Found}
use Rattle.cell_model.specs.declared.events.Placed.{Placed}
use Rattle.cell_model.specs.Layout.{base_time}
use Rattle.cell_model.specs.History.{History, first, store_after}
use Rattle.cell_model.specs.IdRows.{id_of}
use Rattle.cell_model.specs.Lawful.{IsLawful}
use Rattle.metric_scan.specs.Parts.{NameOf, IsShort}
use Rattle.metric_scan.specs.RowNames.{IdOf, ids_of}
use Rattle.metric_scan.specs.Walks.{Counted}
use Rattle.query_run.proofs.Lower as lower
use Rattle.query_run.proofs.Conflicting.{StoodFound}

-- ---- the rows and ids

-- an id of pairs is one of a pair's
ids_in : (pairs : List (ℕ × ℕ)) (ids : List IdOf) → ((q : ℕ × ℕ) → Contains pairs q → Contains ids (TagKey, q.0) × Contains ids (TagValue, q.1)) → (i : IdOf) → Contains (ids_of pairs) i → Contains ids i
ids_in [] ids all i c = absurd (lower.not_in i c)
ids_in (p ∷ pairs) ids all i c = elim (lower.split {X = IdOf} (TagKey, p.0) i ((TagValue, p.1) ∷ ids_of pairs) c) [
  | inl same ↦ subst (Contains ids) same (all p (lower.here p pairs)).0
  | inr later ↦ elim (lower.split {X = IdOf} (TagValue, p.1) i (ids_of pairs) later) [
    | inl same ↦ subst (Contains ids) same (all p (lower.here p pairs)).1
    | inr rest ↦ ids_in pairs ids (λ q x. all q (lower.there p q pairs x)) i rest
  ]
]

pub few_rows : (names : List NameOf) (start end : ℕ) (metric : List ℕ) (id : ℕ) (looks own : List Placed) (founds : List Found) (ids : List IdOf) (h : History) (now : ℕ) → length looks ≤ length names → Counted 1 (store_after (first now h)).widths id start end own founds ids → IsLawful h → id_of (first now h) Metric metric ≡ Some id
    → ((f : Found) → Contains founds f → StoodFound h now f) → IsShort names metric (base_time start) (base_time end) (looks ++ own) (first now h)
few_rows names start end metric id looks own founds ids h now few c lawful known stood rows all holds_rows holds_ids =
    let n = c.count in
    let r = fewer (map (λ (f : Found). f.row) founds) rows (lower.rows_differ founds c.rising) (λ row x. let w = lower.map_in (λ (f : Found). f.row) founds row x in subst (Contains rows) w.2 (row_in w.0 w.1)) in
    let l = length-map founds (λ (f : Found). f.row) in
    let i = fewer ids all c.once (λ j x.
    let w = c.from j x in
    let key = w.2.0 in
    let of = w.2.1 in
    ids_in key.pairs.items all (λ q y. holds_ids key of.is_key (subst (Contains rows) of.row_is (row_in w.0 w.1)) q y) j w.2.2) in
    let both = length-append looks own in
    omega (arith, n, r, l, i, few, both)
  where
    row_in : (f : Found) → Contains founds f → Contains rows f.row
    row_in f x =
        let k = c.keys f x in
        let of = k.1 in
        let s = stood f x in
        let row = of.row_is in
        holds_rows id f.row known (record { key = k.0; is_key = of.is_key; row_is = of.row_is; metric_is = of.metric_is; from_on = of.from_on; up_to = of.up_to }) (lower.row_stays h s.when now f.row lawful (ap (λ (w : Row). w.table) row) s.up_to s.has)

-- where at most one entry was made for each name
pub few_looks : (names : List NameOf) (metric : List ℕ) (first_base last_base : ℕ) (own : List Placed) (g : History) → length own ≤ length names → IsShort names metric first_base last_base own g
few_looks names metric first_base last_base own g le rows all holds_rows holds_ids = omega (arith, le)
