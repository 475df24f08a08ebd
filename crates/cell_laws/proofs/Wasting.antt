-- An id up to the counter that no name has was wasted in the base, or by one bump.
use Rattle.std.proofs.Common.{◌≡◌, ◌≢◌, ◌⊎◌, inl, inr, ℕ, ◌+◌, ◌%◌, ◌^◌, ◌≤◌, ◌<◌, Bool, true, false, List, refl, sym, ap, subst, ◌∙◌, arith, rules}
use Rattle.std.specs.Prelude.{Option, None, Some, option_map, option_and_then, nat_lt, nat_le, if◌then◌else◌}
use Rattle.std.specs.Option.{option_map_or}
use Rattle.std.specs.Int.{w64, to_be_bytes, from_be_bytes}
use Rattle.tsd_base.specs.declared.kinds.Kind.{Kind}
use Rattle.tsd_base.specs.Alphabet.{IsName}
use Rattle.qual_codec.specs.CellDots.{column_qual}
use Rattle.cell_model.specs.declared.answers.Bumped.TheVariants.{Given, Full}
use Rattle.cell_model.specs.declared.row.Row.{Row}
use Rattle.cell_model.specs.declared.events.Place.{Place}
use Rattle.cell_model.specs.declared.events.Content.{Content}
use Rattle.cell_model.specs.declared.events.Entry.{Entry}
use Rattle.cell_model.specs.declared.events.Step.{Step}
use Rattle.cell_model.specs.declared.events.Step.TheVariants.{Open, Read, NextRow, Bump, Claim, PutPoint, AppendPoint, PutMerged, DropCells}
use Rattle.cell_model.specs.declared.events.Reply.TheVariants.{BumpReply}
use Rattle.cell_model.specs.Store.{Store, place_of, value_at, written, get}
use Rattle.cell_model.specs.Machine.{after, reply_of, or_written, counter_row, counter_of, kind_qual, greatest}
use Rattle.cell_model.specs.History.{History, len, store_after, base_of, entry_at, Had}
use Rattle.cell_model.specs.History.History.{Base, Then}
use Rattle.cell_model.specs.KindWidths.{Widths, kind_bytes}
use Rattle.cell_model.specs.IdRows.{name_row, id_number}
use Rattle.cell_laws.proofs.Beginnings.Begins.{whole, longer}
use Rattle.cell_laws.proofs.SameWidths.{base_widths}
use Rattle.cell_model.specs.Lawful.{IsLawful, MayStep, IdsBasis, claimed, given}
use Rattle.cell_laws.specs.Laws.{Waste, WasWasted, WasLost}
use Rattle.cell_model.proofs.CallerLemmas.{content-written_other, get-dropped_other, same_or_not}
use Rattle.cell_laws.proofs.Keeps.{stood, lawful_begins}
use Rattle.cell_laws.proofs.Entries.{entry_at-last, entry_at-more}
use Rattle.cell_laws.proofs.Ids.{same_kind, base_begins, trans_begins, value_keeps, forward_uid, claim_wrote, claimed_name, given_range}
use Rattle.cell_laws.proofs.LawsHold.{number-bytes, id_keeps}
use Rattle.cell_laws.proofs.Counters.{counter_written, row_differs, point_differs, claim_differs, given_once, shorter, base_of_begins}

-- the step gave the next id of the kind
record Gave (s : Store) (place : ℕ) (step : Step) (kind : Kind) : Type 0 where
  step_is : step ≡ Bump kind
  reply_is : reply_of s place step ≡ BumpReply (Given (counter_of s kind + 1))
  now : counter_of (after s place step) kind ≡ counter_of s kind + 1

abbrev Counts : Store → ℕ → Step → Kind → Type 0
Counts s place step kind = (counter_of (after s place step) kind ≡ counter_of s kind) ⊎ Gave s place step kind

counter_same : (s s' : Store) (kind : Kind) → get s' (place_of counter_row (kind_qual kind)) ≡ get s (place_of counter_row (kind_qual kind)) → counter_of s' kind ≡ counter_of s kind
counter_same s s' kind e = ap (λ (o : Option Content). option_map_or (from_be_bytes w64) (option_map (λ (c : Content). c.value) o) 0) e

claim_same : (s : Store) (row : Row) (qual value : List ℕ) (version : ℕ) (kind : Kind) (o : Option (List ℕ)) → counter_row ≢ row → counter_of (or_written o (written s row qual value version) s) kind ≡ counter_of s kind
claim_same s row qual value version kind None ne = counter_same s (written s row qual value version) kind (content-written_other s row qual value version (place_of counter_row (kind_qual kind)) (row_differs row qual (kind_qual kind) ne))
claim_same s row qual value version kind (Some v) ne = refl

-- a step leaves a counter, or gives its next id
step_counts : (h : History) (caller : ℕ) (step : Step) (place : ℕ) (kind : Kind) → IsLawful h → MayStep h caller step → Counts (store_after h) place step kind
step_counts h caller Open place kind l may = inl refl
step_counts h caller (Read row) place kind l may = inl refl
step_counts h caller (NextRow table from to) place kind l may = inl refl
step_counts h caller (Bump other) place kind l may = at (nat_lt (counter_of (store_after h) other) (greatest (store_after h).widths other)) refl (same_or_not (place_of counter_row (kind_qual kind)) (place_of counter_row (kind_qual other)))
  where
    result : Bool → Store
    result b = if b then written (store_after h) counter_row (kind_qual other) (to_be_bytes w64 (counter_of (store_after h) other + 1)) (place % 2 ^ 64) else store_after h

    at : (b : Bool) → nat_lt (counter_of (store_after h) other) (greatest (store_after h).widths other) ≡ b → (place_of counter_row (kind_qual kind) ≡ place_of counter_row (kind_qual other)) ⊎ (place_of counter_row (kind_qual kind) ≢ place_of counter_row (kind_qual other))
        → Counts (store_after h) place (Bump other) kind
    at false t d = inl (ap (λ b. counter_of (if b then written (store_after h) counter_row (kind_qual other) (to_be_bytes w64 (counter_of (store_after h) other + 1)) (place % 2 ^ 64) else store_after h) kind) t)
    at true t (inr ne) = inl (ap (λ b. counter_of (if b then written (store_after h) counter_row (kind_qual other) (to_be_bytes w64 (counter_of (store_after h) other + 1)) (place % 2 ^ 64) else store_after h) kind) t
        ∙ counter_same (store_after h) (written (store_after h) counter_row (kind_qual other) (to_be_bytes w64 (counter_of (store_after h) other + 1)) (place % 2 ^ 64)) kind (content-written_other (store_after h) counter_row (kind_qual other) _ _ (place_of counter_row (kind_qual kind)) ne))
    at true t (inl e) =
        let one : other ≡ kind = same_kind other kind (ap (λ (p : Place). p.qual) (sym e)) in
        let below : counter_of (store_after h) other < greatest (store_after h).widths other = search (rules, t) in
        subst (λ (k : Kind). Counts (store_after h) place (Bump other) k) one (inr (record {
          step_is = refl;
          reply_is = ap (λ b. BumpReply (if b then Given (counter_of (store_after h) other + 1) else Full)) t;
          now = ap (λ b. counter_of (if b then written (store_after h) counter_row (kind_qual other) (to_be_bytes w64 (counter_of (store_after h) other + 1)) (place % 2 ^ 64) else store_after h) other) t
              ∙ counter_written (store_after h) other (counter_of (store_after h) other) (place % 2 ^ 64) below;
        }))
step_counts h caller (Claim row qual value) place kind l may = inl (claim_same (store_after h) row qual value _ kind (value_at (store_after h) row qual) (claim_differs h caller row qual value l may))
step_counts h caller (PutPoint point row qual value) place kind l may = inl (counter_same (store_after h) (after (store_after h) place (PutPoint point row qual value)) kind (content-written_other (store_after h) row qual value _ (place_of counter_row (kind_qual kind)) (row_differs row qual (kind_qual kind) (point_differs row may.in_points))))
step_counts h caller (AppendPoint point row piece) place kind l may = inl (counter_same (store_after h) (after (store_after h) place (AppendPoint point row piece)) kind (content-written_other (store_after h) row column_qual _ _ (place_of counter_row (kind_qual kind)) (row_differs row column_qual (kind_qual kind) (point_differs row may.put.in_points))))
step_counts h caller (PutMerged row qual value) place kind l may = inl (counter_same (store_after h) (after (store_after h) place (PutMerged row qual value)) kind (content-written_other (store_after h) row qual value _ (place_of counter_row (kind_qual kind)) (row_differs row qual (kind_qual kind) (point_differs row may.in_points))))
step_counts h caller (DropCells row which) place kind l may = inl (counter_same (store_after h) (after (store_after h) place (DropCells row which)) kind (get-dropped_other (store_after h) row which (place_of counter_row (kind_qual kind)) (point_differs row may.in_points)))

-- the entry that gave an id
record WasGiven (h : History) (kind : Kind) (id : ℕ) : Type 0 where
  caller : ℕ
  place : ℕ
  stands : entry_at h place ≡ Some (given caller kind id)

abbrev Counted : History → Kind → ℕ → Type 0
Counted h kind id = (id ≤ counter_of (base_of h) kind) ⊎ WasGiven h kind id

counted_more : (h : History) (e : Entry) (kind : Kind) (id : ℕ) → Counted h kind id → Counted (Then h e) kind id
counted_more h e kind id (inl based) = inl based
counted_more h e kind id (inr g) = inr (record { caller = g.caller; place = g.place; stands = entry_at-more h e (given g.caller kind id) g.place g.stands })

gave_entry : (h : History) (e : Entry) (kind : Kind) (id : ℕ) → e.reply ≡ reply_of (store_after h) (len h + 1) e.step → Gave (store_after h) (len h + 1) e.step kind → counter_of (store_after h) kind + 1 ≡ id → e ≡ given e.caller kind id
gave_entry h e kind id legal g same =
    let reply : e.reply ≡ BumpReply (Given id) = legal ∙ g.reply_is ∙ ap (λ n. BumpReply (Given n)) same in
    λ i. record { caller = e.caller; step = g.step_is i; reply = reply i }

-- each id up to the counter is one of the base's, or was given
counted : (h : History) (kind : Kind) (id : ℕ) → IsLawful h → id ≤ counter_of (store_after h) kind → Counted h kind id
counted (Base base) kind id l le = inl le
counted (Then h e) kind id l le = at (nat_le id (counter_of (store_after h) kind)) refl (λ low. counted h kind id l.0 low) (step_counts h e.caller e.step (len h + 1) kind l.0 l.1.may)
  where
    at : (b : Bool) → nat_le id (counter_of (store_after h) kind) ≡ b → (id ≤ counter_of (store_after h) kind → Counted h kind id) → Counts (store_after h) (len h + 1) e.step kind → Counted (Then h e) kind id
    at true t go c = let low : id ≤ counter_of (store_after h) kind = search (rules, t) in counted_more h e kind id (go low)
    at false t go (inl same) = let high : counter_of (store_after h) kind < id = search (rules, t) in absurd (omega (arith, high, same, le))
    at false t go (inr g) =
        let high : counter_of (store_after h) kind < id = search (rules, t) in
        let now = g.now in
        let is : counter_of (store_after h) kind + 1 ≡ id = omega (arith, high, now, le) in
        inr (record { caller = e.caller; place = len h + 1; stands = entry_at-last h e ∙ ap (λ (x : Entry). Some x) (gave_entry h e kind id l.2 g is) })

pub waste : Waste
waste h kind id l least low none = at (counted h kind id l low)
  where
    at : Counted h kind id → WasWasted h kind id ⊎ WasLost h kind id
    at (inl based) = inl (record { counted = based; unnamed = λ name n is. none name n (id_keeps kind name id (base_begins h) l n is) })
    at (inr g) =
        let st = stood h g.place (given g.caller kind id) g.stands in
        let range = given_range (greatest (store_after st.before).widths kind) (counter_of (store_after st.before) kind) id (lawful_begins st.begins l).2 in
        let most : id ≤ greatest (base_of h).widths kind = subst (λ (w : Widths). id ≤ greatest w kind) (sym (base_widths st.before) ∙ ap (λ (s : Store). s.widths) (base_of_begins (trans_begins (longer whole) st.begins))) range.1 in
        let bytes = kind_bytes (base_of h).widths kind id in
        inr (record {
          caller = g.caller;
          place = g.place;
          bumped = g.stands;
          once = λ other who is.
              let so = stood h other (given who kind id) is in
              let same = given_once kind g.caller who id l st.begins so.begins in
              let length : len st.before ≡ len so.before = ap (λ x. len (shorter x)) same in
              let a = st.place_is in let b = so.place_is in omega (arith, a, b, length);
          unclaimed = λ who name had.
              let sc = stood h had.0 (claimed who (name_row name) (kind_qual kind) bytes) had.1 in
              let here = lawful_begins sc.begins l in
              let basis : IdsBasis (Had sc.before) name (kind_qual kind) bytes = here.1.may in
              let n : IsName name = claimed_name sc.before basis.who bytes (kind_qual kind) name here.0 basis.reversed in
              let stands = value_keeps (name_row name) (kind_qual kind) bytes sc.begins l (forward_uid name (kind_qual kind) n) (claim_wrote sc.before who (name_row name) (kind_qual kind) bytes here.2) in
              none name n (ap (option_and_then id_number) stands ∙ number-bytes (base_of h).widths kind id most);
        })
