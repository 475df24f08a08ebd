-- The ranks of the first cells, and of one more.
use Rattle.std.proofs.Common.{◌≡◌, ◌≢◌, ◌⊎◌, inl, inr, ℕ, ◌+◌, ◌<◌, ◌≤◌, Bool, true, false, cond, List, [], refl, sym, ap, subst, ◌∙◌, arith}
use Rattle.std.specs.Prelude.{Option, None, Some}
use Rattle.std.specs.List.{slice_get}
use Rattle.std.specs.BTreeMap.{BTreeMap, get, is_at}
use Rattle.std.specs.Map.{lookup}
use Rattle.std.specs.Ordering.{is_eq, nat_cmp, ordering_then}
use Rattle.std.proofs.lemmas.Option.{slice_get-get_or, slice_get_within}
use Rattle.std.specs.FinMap.{nat_cmp-IsAntisymmetric}
use Rattle.std.specs.Cmp.{nat_cmp_total, tied_itself}
use Rattle.std.specs.declared.cmp.Ordering.{Ordering}
use Rattle.std.specs.declared.cmp.Ordering.TheVariants.{Less}
use Rattle.std.proofs.lemmas.Bool.{cases_lt}
use Rattle.list_lemmas.specs.BytesOrder.{bytes_cmp}
use Rattle.list_lemmas.proofs.BoolTests.{is_equal, not_Some, same_Some}
use Rattle.tsd_base.specs.declared.kinds.Kind.{Kind}
use Rattle.row_key.specs.declared.tables.Table.{Table}
use Rattle.row_key.specs.declared.tables.Table.TheVariants.{Ids, Names, Points}
use Rattle.cell_model.specs.declared.row.ListLine.{ListLine}
use Rattle.cell_model.specs.KindWidths.{Widths, greatest, kind_bytes}
use Rattle.cell_model.specs.IdRows.{id_number}
use Rattle.cell_model.specs.PlaceOrder.{table_number}
use Rattle.cell_model.specs.Rising.{LinesRise}
use Rattle.cell_model.proofs.CallerLemmas.{number-bytes}
use Rattle.listing_dump.specs.NameRanks.{AddsRank, AreRanks, AreRanksTo, IsRank, is_ids, is_name_of}
use Rattle.listing_dump.proofs.RowCells.{less_at}
use Rattle.listing_dump.proofs.SoundLines.{name_cell}

-- the rank of a name's id was put
pub rank_added : (w : Widths) (kind : Kind) (l : ListLine) (id rank : ℕ) (old new : BTreeMap ℕ ℕ) → is_name_of kind l ≡ true → id ≤ greatest w kind → l.value ≡ kind_bytes w kind id
    → ((q : ℕ) → get nat_cmp new q ≡ cond (is_at (nat_cmp id) q) (Some rank) (get nat_cmp old q)) → AddsRank w kind l rank old new
rank_added w kind l id rank old new names fits value put = record {
  found = λ q other got. by q other (is_at (nat_cmp id) q) refl (sym (put q) ∙ got);
  own = λ q n f v none.
      let same : id ≡ q = same_Some id q (sym (number-bytes w kind id fits) ∙ ap id_number (sym value ∙ v) ∙ number-bytes w kind q f) in
      not_Some rank (sym (put q ∙ ap (λ b. cond b (Some rank) (get nat_cmp old q)) (so q same)) ∙ none);
  rest = λ q some none. keep (is_at (nat_cmp id) q) (get nat_cmp old q) some (sym (put q) ∙ none);
}
  where
    so : (q : ℕ) → id ≡ q → is_at (nat_cmp id) q ≡ true
    so q same = ap (λ n. is_at (nat_cmp id) n) (sym same) ∙ ap is_eq (tied_itself nat_cmp_total id)

    by : (q other : ℕ) (b : Bool) → is_at (nat_cmp id) q ≡ b → cond (is_at (nat_cmp id) q) (Some rank) (get nat_cmp old q) ≡ Some other
        → ((other ≡ rank) × (is_name_of kind l ≡ true) × (q ≤ greatest w kind) × (l.value ≡ kind_bytes w kind q)) ⊎ (get nat_cmp old q ≡ Some other)
    by q other true e got =
        let same = nat_cmp-IsAntisymmetric id q (is_equal (nat_cmp id q) e) in
        inl (sym (same_Some rank other (sym (ap (λ b. cond b (Some rank) (get nat_cmp old q)) e) ∙ got)), names, subst (λ n. n ≤ greatest w kind) same fits, value ∙ ap (kind_bytes w kind) same)
    by q other false e got = inr (sym (ap (λ b. cond b (Some rank) (get nat_cmp old q)) e) ∙ got)

    keep : (b : Bool) (o : Option ℕ) → o ≢ None → cond b (Some rank) o ≡ None → ⊥
    keep true o some e = not_Some rank e
    keep false o some e = some e

-- the ranks of no cells
pub none_yet : (w : Widths) (cells : List ListLine) (kind : Kind) (ranks : BTreeMap ℕ ℕ) → ranks.entries ≡ [] → AreRanksTo w cells kind ranks 0
none_yet w cells kind ranks e = record {
  found = λ id rank got. absurd (not_Some rank (sym got ∙ ap (lookup (is_at (nat_cmp id))) e));
  all = λ id at l is lt. absurd (omega (arith, lt));
}

-- the ranks of one more
pub one_more : (w : Widths) (cells : List ListLine) (kind : Kind) (old new : BTreeMap ℕ ℕ) (at : ℕ) (l : ListLine) → slice_get cells at ≡ Some l → AddsRank w kind l at old new → AreRanksTo w cells kind old at → AreRanksTo w cells kind new (at + 1)
one_more w cells kind old new at l isl adds was = record {
  found = λ id rank got. by id rank (adds.found id rank got);
  all = λ id j x isx lt names fits value. each id j x isx lt names fits value (cases_lt j at);
}
  where
    by : (id rank : ℕ) → ((rank ≡ at) × (is_name_of kind l ≡ true) × (id ≤ greatest w kind) × (l.value ≡ kind_bytes w kind id)) ⊎ (get nat_cmp old id ≡ Some rank) → IsRank w cells kind id rank
    by id rank (inl x) = record { line = l; there = ap (slice_get cells) x.0 ∙ isl; names = x.1; fits = x.2; value_is = x.3 }
    by id rank (inr x) = was.found id rank x

    each : (id j : ℕ) (x : ListLine) → slice_get cells j ≡ Some x → j < at + 1 → is_name_of kind x ≡ true → id ≤ greatest w kind → x.value ≡ kind_bytes w kind id → (j < at) ⊎ (at ≤ j) → get nat_cmp new id ≢ None
    each id j x isx lt names fits value (inl low) = adds.rest id (was.all id j x isx low names fits value)
    each id j x isx lt names fits value (inr high) =
        let last : j ≡ at = omega (arith, lt, high) in
        let same : x ≡ l = same_Some x l (sym isx ∙ ap (slice_get cells) last ∙ isl) in
        adds.own id (sym (ap (is_name_of kind) same) ∙ names) fits (sym (ap (λ (y : ListLine). y.value) same) ∙ value)

-- lines of ids stand first
ids_before : (a b : ListLine) (r q : Ordering) → ordering_then (ordering_then (nat_cmp (table_number a.table) (table_number b.table)) r) q ≡ Less → b.table ≡ Ids → is_ids a.table ≡ true
ids_before a b r q e t = by a.table (sym (ap (λ x. ordering_then (ordering_then (nat_cmp (table_number a.table) (table_number x)) r) q) t) ∙ e)
  where
    by : (x : Table) → ordering_then (ordering_then (nat_cmp (table_number x) 0) r) q ≡ Less → is_ids x ≡ true
    by Ids e = refl
    by Names e = cc
    by Points e = cc

-- where the next line is none of ids, they are those of all cells
pub ranks_of_all : (w : Widths) (cells : List ListLine) (kind : Kind) (ranks : BTreeMap ℕ ℕ) (end : ℕ) → LinesRise cells → ((l : ListLine) → slice_get cells end ≡ Some l → is_ids l.table ≡ false) → AreRanksTo w cells kind ranks end → AreRanks w cells kind ranks
ranks_of_all w cells kind ranks end up nay was = record {
  found = was.found;
  all = λ id rank r. by id rank r (cases_lt rank end);
}
  where
    false_true : false ≡ true → ⊥
    false_true e = cc

    by : (id rank : ℕ) (r : IsRank w cells kind id rank) → (rank < end) ⊎ (end ≤ rank) → get nat_cmp ranks id ≢ None
    by id rank r (inl lt) = was.all id rank r.line r.there lt r.names r.fits r.value_is
    by id rank r (inr le) = absurd (never (cases_lt end rank))
      where
        n : r.line.table ≡ Ids
        n = (name_cell kind r.line r.names).table

        never : (end < rank) ⊎ (rank ≤ end) → ⊥
        never (inl lt) = next (slice_get cells end) refl
          where
            next : (o : Option ListLine) → slice_get cells end ≡ o → ⊥
            next None is = let within = slice_get_within cells rank r.line r.there in let got = slice_get-get_or cells end r.line (omega (arith, lt, within)) in not_Some _ (sym got ∙ is)
            next (Some l) is = let low = less_at cells up end rank l r.line is r.there lt in false_true (sym (nay l is) ∙ ids_before l r.line (bytes_cmp l.row r.line.row) (bytes_cmp l.qual r.line.qual) low n)
        never (inr ge) = let same : end ≡ rank = omega (arith, le, ge) in false_true (sym (nay r.line (ap (slice_get cells) same ∙ r.there)) ∙ ap is_ids n)
