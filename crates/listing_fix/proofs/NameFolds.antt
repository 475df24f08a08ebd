-- Names from the least one on: each that stays has an id that has it.
use Rattle.std.proofs.Common.{◌≡◌, ◌≢◌, ◌≤◌, ◌⊎◌, inl, inr, ℕ, Bool, true, false, cond, List, [], ◌∷◌, refl, sym, ap, subst, ◌∙◌, arith}
use Rattle.std.specs.Prelude.{Option, None, Some, option_map, Contains}
use Rattle.std.specs.Ordering.{is_eq}
use Rattle.std.specs.Cmp.{tied_itself}
use Rattle.std.specs.FinMap.{get-remove}
use Rattle.std.proofs.lemmas.Option.{none-some}
use Rattle.list_lemmas.proofs.BoolTests.{not_Some, same_Some}
use Rattle.list_lemmas.proofs.ListMembers.{split, not_in}
use Rattle.short_bytes.specs.Alike.{same_list}
use Rattle.tsd_base.specs.Alphabet.{IsName}
use Rattle.tsd_base.specs.declared.kinds.Kind.{Kind}
use Rattle.tsd_base.specs.declared.kinds.Kind.TheVariants.{Metric}
use Rattle.row_key.specs.declared.tables.Table.{Table}
use Rattle.row_key.specs.declared.tables.Table.TheVariants.{Ids, Names, Points}
use Rattle.cell_model.specs.declared.row.Row.{Row}
use Rattle.cell_model.specs.declared.events.Place.{Place}
use Rattle.cell_model.specs.declared.events.Content.{Content}
use Rattle.cell_model.specs.PlaceOrder.{table_number}
use Rattle.cell_model.specs.KindWidths.{Widths, IsKindId, kind_bytes}
use Rattle.cell_model.specs.Store.{Store, get, place_of, remove, same_bytes, written}
use Rattle.cell_model.specs.Machine.{kind_qual}
use Rattle.cell_model.specs.IdRows.{id_row, name_row, name_in}
use Rattle.cell_model.proofs.CallerLemmas.{places_total, content-written, content-written_other, get-removed_other, same_or_not}
use Rattle.listing_check.specs.UidCells.{UidCell, counter_by, counter_spelled, counter_with, forward_by, forward_with, id_spelled, kind_named, name_spelled, reverse_by, reverse_with, uid_in}
use Rattle.listing_check.specs.UidCells.UidCell.{Counter, Forward, Reverse}
use Rattle.listing_fix.specs.Fixes.{is_points, name_given, names_given, uid_given, uid_of}
use Rattle.listing_check.proofs.CallerLemmas.{id_back, id_read, kind_back, kind_is, name_back, name_read}

-- ---- the parts of what a cell says

abbrev pub form_in : Option UidCell → ℕ
form_in None = 0
form_in (Some (Counter k n)) = 1
form_in (Some (Forward k m i)) = 2
form_in (Some (Reverse k i m)) = 3

abbrev pub kind_in : Option UidCell → Kind
kind_in None = Metric
kind_in (Some (Counter k n)) = k
kind_in (Some (Forward k m i)) = k
kind_in (Some (Reverse k i m)) = k

abbrev pub number_in : Option UidCell → ℕ
number_in None = 0
number_in (Some (Counter k n)) = n
number_in (Some (Forward k m i)) = i
number_in (Some (Reverse k i m)) = i

abbrev pub bytes_of : Option UidCell → List ℕ
bytes_of None = []
bytes_of (Some (Counter k n)) = []
bytes_of (Some (Forward k m i)) = m
bytes_of (Some (Reverse k i m)) = m

counter_form : (w : Widths) (k : Option Kind) (value : List ℕ) → form_in (counter_by w k value) ≤ 1
counter_form w None value = omega arith
counter_form w (Some k) value = at (counter_spelled w k value)
  where
    at : (n : Option ℕ) → form_in (counter_with k n) ≤ 1
    at None = omega arith
    at (Some n) = omega arith

forward_form : (w : Widths) (k : Option Kind) (row value : List ℕ) (f : ℕ) → form_in (forward_by w k row value) ≡ f → (f ≡ 0) ⊎ (f ≡ 2)
forward_form w None row value f e = inl (sym e)
forward_form w (Some k) row value f e = at (name_spelled row) (id_spelled w k value) e
  where
    at : (m : Option (List ℕ)) (i : Option ℕ) → form_in (forward_with k m i) ≡ f → (f ≡ 0) ⊎ (f ≡ 2)
    at (Some m) (Some i) e = inr (sym e)
    at (Some m) None e = inl (sym e)
    at None i e = inl (sym e)

reverse_form : (w : Widths) (k : Option Kind) (row value : List ℕ) (f : ℕ) → form_in (reverse_by w k row value) ≡ f → (f ≡ 0) ⊎ (f ≡ 3)
reverse_form w None row value f e = inl (sym e)
reverse_form w (Some k) row value f e = at (id_spelled w k row) (name_spelled value) e
  where
    at : (i : Option ℕ) (m : Option (List ℕ)) → form_in (reverse_with k i m) ≡ f → (f ≡ 0) ⊎ (f ≡ 3)
    at (Some i) (Some m) e = inr (sym e)
    at (Some i) None e = inl (sym e)
    at None m e = inl (sym e)

-- a form that is neither of two
neither : (f m n : ℕ) → (f ≡ m → ⊥) → (f ≡ n → ⊥) → (f ≡ m) ⊎ (f ≡ n) → ⊥
neither f m n a b (inl e) = a e
neither f m n a b (inr e) = b e

pub record IsForwardAt (w : Widths) (t : Table) (row qual value : List ℕ) (kind : Kind) (name : List ℕ) (id : ℕ) : Type 0 where
  pub table_is : t ≡ Ids
  pub row_is : row ≡ name
  pub qual_is : qual ≡ kind_qual kind
  pub value_is : value ≡ kind_bytes w kind id
  pub is_name : IsName name
  pub is_id : IsKindId w kind id

forward_parts : (w : Widths) (row qual value : List ℕ) (kind : Kind) (name : List ℕ) (id : ℕ) (k : Option Kind) → kind_named qual ≡ k → forward_by w k row value ≡ Some (Forward kind name id) → IsForwardAt w Ids row qual value kind name id
forward_parts w row qual value kind name id None named e = absurd (none-some _ e)
forward_parts w row qual value kind name id (Some k) named e = at (name_spelled row) (id_spelled w k value) refl refl e
  where
    at : (m : Option (List ℕ)) (i : Option ℕ) → name_spelled row ≡ m → id_spelled w k value ≡ i → forward_with k m i ≡ Some (Forward kind name id) → IsForwardAt w Ids row qual value kind name id
    at (Some m) (Some i) spelled read e =
        let n = name_read row m spelled in
        let d = id_read w k value i read in
        let ks : k ≡ kind = ap kind_in e in
        let ms : m ≡ name = ap bytes_of e in
        let is : i ≡ id = ap number_in e in
        record {
          table_is = refl;
          row_is = n.1 ∙ ms;
          qual_is = kind_is qual k named ∙ ap kind_qual ks;
          value_is = d.1 ∙ (λ t. kind_bytes w (ks t) (is t));
          is_name = subst IsName (n.1 ∙ ms) n.0;
          is_id = subst (λ (p : Kind × ℕ). IsKindId w p.0 p.1) (λ t. (ks t, is t)) d.0;
        }
    at (Some m) None spelled read e = absurd (none-some _ e)
    at None i spelled read e = absurd (none-some _ e)

pub forward_at : (w : Widths) (t : Table) (row qual value : List ℕ) (kind : Kind) (name : List ℕ) (id : ℕ) → uid_in w t row qual value ≡ Some (Forward kind name id) → IsForwardAt w t row qual value kind name id
forward_at w Ids row qual value kind name id e = at (same_bytes row (0 ∷ [])) e
  where
    at : (b : Bool) → cond b (counter_by w (kind_named qual) value) (forward_by w (kind_named qual) row value) ≡ Some (Forward kind name id) → IsForwardAt w Ids row qual value kind name id
    at true e = let low = counter_form w (kind_named qual) value in let f : form_in (counter_by w (kind_named qual) value) ≡ 2 = ap form_in e in absurd (omega (arith, low, f))
    at false e = forward_parts w row qual value kind name id (kind_named qual) refl e
forward_at w Names row qual value kind name id e = absurd (neither 2 0 3 (λ z. absurd (omega (arith, z))) (λ z. absurd (omega (arith, z))) (reverse_form w (kind_named qual) row value 2 (ap form_in e)))
forward_at w Points row qual value kind name id e = absurd (none-some _ e)

pub record IsCounterAt (w : Widths) (t : Table) (row qual value : List ℕ) (kind : Kind) (number : ℕ) : Type 0 where
  pub table_is : t ≡ Ids
  pub row_is : row ≡ 0 ∷ []
  pub qual_is : qual ≡ kind_qual kind
  pub number_is : counter_spelled w kind value ≡ Some number

counter_parts : (w : Widths) (row qual value : List ℕ) (kind : Kind) (number : ℕ) (k : Option Kind) → row ≡ 0 ∷ [] → kind_named qual ≡ k → counter_by w k value ≡ Some (Counter kind number) → IsCounterAt w Ids row qual value kind number
counter_parts w row qual value kind number None first named e = absurd (none-some _ e)
counter_parts w row qual value kind number (Some k) first named e = at (counter_spelled w k value) refl e
  where
    at : (n : Option ℕ) → counter_spelled w k value ≡ n → counter_with k n ≡ Some (Counter kind number) → IsCounterAt w Ids row qual value kind number
    at (Some n) read e =
        let ks : k ≡ kind = ap kind_in e in
        record { table_is = refl; row_is = first; qual_is = kind_is qual k named ∙ ap kind_qual ks; number_is = subst (λ (j : Kind). counter_spelled w j value ≡ Some n) ks read ∙ ap Some (ap number_in e) }
    at None read e = absurd (none-some _ e)

pub counter_at : (w : Widths) (t : Table) (row qual value : List ℕ) (kind : Kind) (number : ℕ) → uid_in w t row qual value ≡ Some (Counter kind number) → IsCounterAt w t row qual value kind number
counter_at w Ids row qual value kind number e = at (same_bytes row (0 ∷ [])) refl e
  where
    at : (b : Bool) → same_bytes row (0 ∷ []) ≡ b → cond b (counter_by w (kind_named qual) value) (forward_by w (kind_named qual) row value) ≡ Some (Counter kind number) → IsCounterAt w Ids row qual value kind number
    at true same e = counter_parts w row qual value kind number (kind_named qual) (same_list row (0 ∷ []) same) refl e
    at false same e = absurd (neither 1 0 2 (λ z. absurd (omega (arith, z))) (λ z. absurd (omega (arith, z))) (forward_form w (kind_named qual) row value 1 (ap form_in e)))
counter_at w Names row qual value kind number e = absurd (neither 1 0 3 (λ z. absurd (omega (arith, z))) (λ z. absurd (omega (arith, z))) (reverse_form w (kind_named qual) row value 1 (ap form_in e)))
counter_at w Points row qual value kind number e = absurd (none-some _ e)

pub record IsReverseAt (w : Widths) (t : Table) (kind : Kind) (id : ℕ) : Type 0 where
  pub table_is : t ≡ Names
  pub is_id : IsKindId w kind id

reverse_parts : (w : Widths) (row value : List ℕ) (kind : Kind) (id : ℕ) (name : List ℕ) (k : Option Kind) → reverse_by w k row value ≡ Some (Reverse kind id name) → IsReverseAt w Names kind id
reverse_parts w row value kind id name None e = absurd (none-some _ e)
reverse_parts w row value kind id name (Some k) e = at (id_spelled w k row) (name_spelled value) refl e
  where
    at : (i : Option ℕ) (m : Option (List ℕ)) → id_spelled w k row ≡ i → reverse_with k i m ≡ Some (Reverse kind id name) → IsReverseAt w Names kind id
    at (Some i) (Some m) read e =
        let ks : k ≡ kind = ap kind_in e in
        let is : i ≡ id = ap number_in e in
        record { table_is = refl; is_id = subst (λ (p : Kind × ℕ). IsKindId w p.0 p.1) (λ t. (ks t, is t)) (id_read w k row i read).0 }
    at (Some i) None read e = absurd (none-some _ e)
    at None m read e = absurd (none-some _ e)

pub reverse_at : (w : Widths) (t : Table) (row qual value : List ℕ) (kind : Kind) (id : ℕ) (name : List ℕ) → uid_in w t row qual value ≡ Some (Reverse kind id name) → IsReverseAt w t kind id
reverse_at w Ids row qual value kind id name e = at (same_bytes row (0 ∷ [])) e
  where
    at : (b : Bool) → cond b (counter_by w (kind_named qual) value) (forward_by w (kind_named qual) row value) ≡ Some (Reverse kind id name) → IsReverseAt w Ids kind id
    at true e = let low = counter_form w (kind_named qual) value in let f : form_in (counter_by w (kind_named qual) value) ≡ 3 = ap form_in e in absurd (omega (arith, low, f))
    at false e = absurd (neither 3 0 2 (λ z. absurd (omega (arith, z))) (λ z. absurd (omega (arith, z))) (forward_form w (kind_named qual) row value 3 (ap form_in e)))
reverse_at w Names row qual value kind id name e = reverse_parts w row value kind id name (kind_named qual) e
reverse_at w Points row qual value kind id name e = absurd (none-some _ e)

-- ---- what stands at a place

abbrev pub held : Store → Place → Option (List ℕ)
held s p = option_map (λ (c : Content). c.value) (get s p)

abbrev pub says : Widths → Place → List ℕ → Option UidCell
says w p v = uid_in w p.row.table p.row.bytes p.qual v

pub held_written : (s : Store) (row : Row) (qual value : List ℕ) → held (written s row qual value 0) (place_of row qual) ≡ Some value
held_written s row qual value = ap (option_map (λ (c : Content). c.value)) (content-written s row qual value 0)

pub held_written_other : (s : Store) (row : Row) (qual value : List ℕ) (p : Place) → p ≢ place_of row qual → held (written s row qual value 0) p ≡ held s p
held_written_other s row qual value p ne = ap (option_map (λ (c : Content). c.value)) (content-written_other s row qual value 0 p ne)

pub held_removed : (s : Store) (q : Place) → held (remove s q) q ≡ None
held_removed s q =
    ap (option_map (λ (c : Content). c.value)) (get-remove places_total s.cells q q ∙ ap (λ o. cond (is_eq o) None (get s q)) (tied_itself places_total q))

pub held_removed_other : (s : Store) (q p : Place) → p ≢ q → held (remove s q) p ≡ held s p
held_removed_other s q p ne = ap (option_map (λ (c : Content). c.value)) (get-removed_other s q p ne)

-- ids and names are two tables
pub tables_differ : (p q : Place) → p.row.table ≡ Ids → q.row.table ≡ Names → p ≡ q → ⊥
tables_differ p q a b e =
    let n : 0 ≡ 1 = ap table_number (sym a ∙ ap (λ (x : Place). x.row.table) e ∙ b) in
    absurd (omega (arith, n))

-- ---- the fold

-- each cell of ids and of names reads
abbrev pub AllRead : Store → Type 0
AllRead s = (p : Place) (v : List ℕ) → is_points p.row.table ≡ false → held s p ≡ Some v → (u : UidCell) × (says s.widths p v ≡ Some u)

pub record IsEntry (es : List (Place × Content)) (p : Place) (v : List ℕ) : Type 0 where
  pub entry : Place × Content
  pub among : Contains es entry
  pub place_is : entry.0 ≡ p
  pub value_is : entry.1.value ≡ v

-- each name that stands is one of those to come, or its id has it
abbrev pub Settled : Store → List (Place × Content) → Type 0
Settled s es = (p : Place) (v : List ℕ) (kind : Kind) (name : List ℕ) (id : ℕ) → held s p ≡ Some v → says s.widths p v ≡ Some (Forward kind name id) → IsEntry es p v ⊎ (name_in s kind id ≡ Some name)

pub record Goes (s : Store) (es : List (Place × Content)) : Type 0 where
  pub reads : AllRead s
  pub settled : Settled s es

module _ (s : Store) (e : Place × Content) (es : List (Place × Content)) (g : Goes s (e ∷ es)) where
  -- one of these is the first, or comes later
  later_or : (p : Place) (v : List ℕ) → IsEntry (e ∷ es) p v → (says s.widths p v ≡ uid_of s.widths e.0 e.1) ⊎ IsEntry es p v
  later_or p v x = at (split e x.entry es x.among)
    where
      at : (e ≡ x.entry) ⊎ Contains es x.entry → (says s.widths p v ≡ uid_of s.widths e.0 e.1) ⊎ IsEntry es p v
      at (inl same) =
          let place : e.0 ≡ p = ap (λ (y : Place × Content). y.0) same ∙ x.place_is in
          let value : e.1.value ≡ v = ap (λ (y : Place × Content). y.1.value) same ∙ x.value_is in
          inl (sym (λ i. says s.widths (place i) (value i)))
      at (inr c) = inr (record { entry = x.entry; among = c; place_is = x.place_is; value_is = x.value_is })

  -- where the first is no name, nothing is done
  passed : (form_in (uid_of s.widths e.0 e.1) ≡ 2 → ⊥) → Goes s es
  passed other = record { reads = g.reads; settled = settled }
    where
      settled : Settled s es
      settled p v kind name id there f = at (g.settled p v kind name id there f)
        where
          at : IsEntry (e ∷ es) p v ⊎ (name_in s kind id ≡ Some name) → IsEntry es p v ⊎ (name_in s kind id ≡ Some name)
          at (inr named) = inr named
          at (inl x) = elim (later_or p v x) [ inl same ↦ absurd (other (ap form_in (sym same ∙ f))) | inr c ↦ inl c ]

  module _ (k : Kind) (n : List ℕ) (i : ℕ) (is : uid_of s.widths e.0 e.1 ≡ Some (Forward k n i)) where
    here : IsForwardAt s.widths e.0.row.table e.0.row.bytes e.0.qual e.1.value k n i
    here = forward_at s.widths e.0.row.table e.0.row.bytes e.0.qual e.1.value k n i is

    abbrev target : Place
    target = place_of (id_row s.widths k i) (kind_qual k)

    abbrev own : Place
    own = place_of (name_row n) (kind_qual k)

    -- what is said of this name is said of its parts
    parts_same : (kind : Kind) (name : List ℕ) (id : ℕ) → Some (Forward kind name id) ≡ Some (Forward k n i) → (kind ≡ k) × (name ≡ n) × (id ≡ i)
    parts_same kind name id e = (ap kind_in e, ap bytes_of e, ap number_in e)

    given_none : name_in s k i ≡ None → Goes (written s (id_row s.widths k i) (kind_qual k) n 0) es
    given_none none = record { reads = reads; settled = settled }
      where
        reads : AllRead (written s (id_row s.widths k i) (kind_qual k) n 0)
        reads p v pts there = at (same_or_not p target)
          where
            at : (p ≡ target) ⊎ (p ≢ target) → (u : UidCell) × (says s.widths p v ≡ Some u)
            at (inl same) =
                let value : v ≡ n = same_Some v n (sym there ∙ ap (held (written s (id_row s.widths k i) (kind_qual k) n 0)) same ∙ held_written s (id_row s.widths k i) (kind_qual k) n) in
                (Reverse k i n, (λ t. says s.widths (same t) (value t)) ∙ ap (λ j. reverse_by s.widths j (kind_bytes s.widths k i) n) (kind_back k) ∙ (λ t. reverse_with k (id_back s.widths k i here.is_id t) (name_back n here.is_name t)))
            at (inr differ) = g.reads p v pts (sym (held_written_other s (id_row s.widths k i) (kind_qual k) n p differ) ∙ there)

        settled : Settled (written s (id_row s.widths k i) (kind_qual k) n 0) es
        settled p v kind name id there f = at (g.settled p v kind name id before f)
          where
            before : held s p ≡ Some v
            before = sym (held_written_other s (id_row s.widths k i) (kind_qual k) n p (tables_differ p target (forward_at s.widths p.row.table p.row.bytes p.qual v kind name id f).table_is refl)) ∙ there

            at : IsEntry (e ∷ es) p v ⊎ (name_in s kind id ≡ Some name) → IsEntry es p v ⊎ (name_in (written s (id_row s.widths k i) (kind_qual k) n 0) kind id ≡ Some name)
            at (inr named) = inr (held_written_other s (id_row s.widths k i) (kind_qual k) n (place_of (id_row s.widths kind id) (kind_qual kind))
                (λ same. not_Some name (sym named ∙ ap (held s) same ∙ none)) ∙ named)
            at (inl x) = elim (later_or p v x) [
              | inl same ↦ (
                  let q = parts_same kind name id (sym f ∙ same ∙ is) in
                  inr ((λ t. held (written s (id_row s.widths k i) (kind_qual k) n 0) (place_of (id_row s.widths (q.0 t) (q.2 t)) (kind_qual (q.0 t)))) ∙ held_written s (id_row s.widths k i) (kind_qual k) n ∙ ap Some (sym q.1)))
              | inr c ↦ inl c
            ]

    given_same : name_in s k i ≡ Some n → Goes s es
    given_same named = record { reads = g.reads; settled = settled }
      where
        settled : Settled s es
        settled p v kind name id there f = at (g.settled p v kind name id there f)
          where
            at : IsEntry (e ∷ es) p v ⊎ (name_in s kind id ≡ Some name) → IsEntry es p v ⊎ (name_in s kind id ≡ Some name)
            at (inr has) = inr has
            at (inl x) = elim (later_or p v x) [
              | inl same ↦ (
                  let q = parts_same kind name id (sym f ∙ same ∙ is) in
                  inr ((λ t. name_in s (q.0 t) (q.2 t)) ∙ named ∙ ap Some (sym q.1)))
              | inr c ↦ inl c
            ]

    given_other : Goes (remove s (place_of (name_row n) (kind_qual k))) es
    given_other = record { reads = reads; settled = settled }
      where
        kept : (p : Place) (v : List ℕ) → held (remove s own) p ≡ Some v → (p ≢ own) × (held s p ≡ Some v)
        kept p v there =
            let differ : p ≢ own = λ same. not_Some v (sym there ∙ ap (held (remove s own)) same ∙ held_removed s own) in
            (differ, sym (held_removed_other s own p differ) ∙ there)

        reads : AllRead (remove s own)
        reads p v pts there = g.reads p v pts (kept p v there).1

        settled : Settled (remove s own) es
        settled p v kind name id there f = at (g.settled p v kind name id (kept p v there).1 f)
          where
            at : IsEntry (e ∷ es) p v ⊎ (name_in s kind id ≡ Some name) → IsEntry es p v ⊎ (name_in (remove s own) kind id ≡ Some name)
            at (inr has) = inr (held_removed_other s own (place_of (id_row s.widths kind id) (kind_qual kind)) (λ same. tables_differ own (place_of (id_row s.widths kind id) (kind_qual kind)) refl refl (sym same)) ∙ has)
            at (inl x) = elim (later_or p v x) [
              | inl same ↦ (
                  let q = parts_same kind name id (sym f ∙ same ∙ is) in
                  let w = forward_at s.widths p.row.table p.row.bytes p.qual v kind name id f in
                  let here : p ≡ own = λ t. record { row = record { table = w.table_is t; bytes = (w.row_is ∙ q.1) t }; qual = (w.qual_is ∙ ap kind_qual q.0) t } in
                  absurd ((kept p v there).0 here))
              | inr c ↦ inl c
            ]

    given : (o : Option (List ℕ)) → name_in s k i ≡ o → Goes (name_given s k n i o) es
    given None none = given_none none
    given (Some other) named = at (same_bytes other n) refl
      where
        at : (b : Bool) → same_bytes other n ≡ b → Goes (cond b s (remove s (place_of (name_row n) (kind_qual k)))) es
        at true same = given_same (named ∙ ap Some (same_list other n same))
        at false differs = given_other

  step : (u : Option UidCell) → uid_of s.widths e.0 e.1 ≡ u → Goes (uid_given s u) es
  step None is = passed (λ f. let w : 0 ≡ 2 = sym (ap form_in is) ∙ f in absurd (omega (arith, w)))
  step (Some (Counter k m)) is = passed (λ f. let w : 1 ≡ 2 = sym (ap form_in is) ∙ f in absurd (omega (arith, w)))
  step (Some (Reverse k i m)) is = passed (λ f. let w : 3 ≡ 2 = sym (ap form_in is) ∙ f in absurd (omega (arith, w)))
  step (Some (Forward k m i)) is = given k m i is (name_in s k i) refl

pub settle : (s : Store) (es : List (Place × Content)) → Goes s es → Goes (names_given s es) []
settle s [] g = g
settle s (e ∷ es) g = settle (uid_given s (uid_of s.widths e.0 e.1)) es (step s e es g (uid_of s.widths e.0 e.1) refl)

-- in the end each name has an id that has it
pub settled_names : (s : Store) → Goes s [] → (p : Place) (v : List ℕ) (kind : Kind) (name : List ℕ) (id : ℕ) → held s p ≡ Some v → says s.widths p v ≡ Some (Forward kind name id) → name_in s kind id ≡ Some name
settled_names s g p v kind name id there f = elim (g.settled p v kind name id there f) [ inl x ↦ absurd (not_in x.entry x.among) | inr named ↦ named ]
