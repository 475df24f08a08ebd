-- The store after a lawful history is sound.
use Rattle.std.proofs.Common.{◌≡◌, ◌≢◌, ◌⊎◌, inl, inr, ℕ, ◌+◌, ◌%◌, ◌^◌, ◌≤◌, ◌<◌, Bool, true, false, List, [], ◌∷◌, refl, sym, ap, subst, ◌∙◌, arith, rules}
use Rattle.std.specs.Prelude.{Option, None, Some, option_map, nat_lt, if◌then◌else◌}
use Rattle.std.specs.Int.{w64, to_be_bytes}
use Rattle.tsd_base.specs.declared.kinds.Kind.{Kind}
use Rattle.tsd_base.specs.declared.kinds.Kind.TheVariants.{Metric, TagKey, TagValue}
use Rattle.tsd_base.specs.Alphabet.{IsName}
use Rattle.row_key.specs.declared.tables.Table.TheVariants.{Ids, Points}
use Rattle.qual_codec.specs.CellDots.{column_qual}
use Rattle.cell_model.specs.declared.row.Row.{Row}
use Rattle.cell_model.specs.declared.events.Place.{Place}
use Rattle.cell_model.specs.declared.events.Content.{Content}
use Rattle.cell_model.specs.declared.events.Step.{Step}
use Rattle.cell_model.specs.declared.events.Step.TheVariants.{Open, Read, NextRow, Bump, Claim, PutPoint, AppendPoint, PutMerged, DropCells}
use Rattle.cell_model.specs.Store.{Store, place_of, content_at, value_at, written, dropped}
use Rattle.cell_model.specs.Machine.{after, or_written, counter_row, counter_of, kind_qual, greatest}
use Rattle.cell_model.specs.History.{History, base_of, len, store_after, Had}
use Rattle.cell_laws.proofs.Beginnings.{Begins}
use Rattle.cell_model.specs.History.History.{Base, Then}
use Rattle.cell_laws.proofs.Beginnings.Begins.{whole, longer}
use Rattle.cell_model.specs.KindWidths.{Widths, IsKindId, kind_bytes}
use Rattle.cell_model.specs.IdRows.{name_row, reverse_row, id_row, id_of}
use Rattle.cell_model.specs.Lawful.{IsLawful, MayStep, NamesBasis, IdsBasis, claimed, given}
use Rattle.cell_model.specs.Sound.{IsCounter, CountersRead, IsGiven, IsForward, IsReverse}
use Rattle.cell_laws.specs.Laws.{StaysSound, IsTaken, RowIdsAreTaken}
use Rattle.cell_model.specs.Readings.{point_row}
use Rattle.cell_model.proofs.CallerLemmas.{content-written_other, get-dropped, same_or_not}
use Rattle.cell_laws.proofs.SameWidths.{carry}
use Rattle.cell_laws.proofs.Keeps.{IsUid, stood, lawful_begins}
use Rattle.cell_laws.proofs.Entries.{entry_at-last}
use Rattle.cell_laws.proofs.Ids.{came, same_kind, mapped_Some, reverse_uid, base_sound, base_begins, trans_begins, value_keeps, claim_wrote, given_range, not_zero}
use Rattle.cell_laws.proofs.LawsHold.{forward, names_back}
use Rattle.cell_laws.proofs.Counters.{given_counts, counter_keeps, point_differs, claim_differs, same_number}
use Rattle.cell_laws.proofs.Known.{value-written, value_step}
use Rattle.cell_laws.proofs.Written.{row_resolved, each_reads}

given_keeps : {h0 h : History} (kind : Kind) (id : ℕ) → Begins h0 h → IsLawful h → IsGiven (store_after h0) kind id → IsGiven (store_after h) kind id
given_keeps kind id b l g = record { is_id = carry b (λ (w : Widths). IsKindId w kind id) g.is_id; counted = let low = g.counted in let grows = counter_keeps kind b l in omega (arith, low, grows) }

-- a reverse cell that stands
record Reverses (h : History) (bytes qual name : List ℕ) : Type 0 where
  is : IsReverse (store_after h) bytes qual name
  stands : value_at (store_after h) (reverse_row bytes) qual ≡ Some name

-- what a claim of one that was done shows of each later store
reverse_had : (h h1 : History) (who : ℕ) (bytes qual name : List ℕ) → Begins h1 h → IsLawful h1 → IsLawful h → Had h1 (claimed who (reverse_row bytes) qual name) → Reverses h bytes qual name
reverse_had h h1 who bytes qual name b l1 l had =
    let row : Row = reverse_row bytes in
    let st = stood h1 had.0 (claimed who row qual name) had.1 in
    let here = lawful_begins st.begins l1 in
    let basis : NamesBasis (store_after st.before).widths (Had st.before) who bytes qual name = here.1.may in
    let bump = stood st.before basis.bumped.0 (given who basis.kind basis.number) basis.bumped.1 in
    let lb = lawful_begins bump.begins here.0 in
    let range = given_range (greatest (store_after bump.before).widths basis.kind) (counter_of (store_after bump.before) basis.kind) basis.number lb.2 in
    let count = given_counts bump.before who basis.kind basis.number lb in
    let now = count.now in
    let later = trans_begins st.begins b in
    let grows = counter_keeps basis.kind (trans_begins bump.begins (trans_begins (longer whole) later)) l in
    record {
      is = record {
        kind = basis.kind;
        id = basis.number;
        is_kind = basis.is_kind;
        is_name = basis.is_name;
        given = record { is_id = carry (trans_begins (trans_begins (longer whole) bump.begins) (trans_begins (longer whole) later)) (λ (w : Widths). IsKindId w basis.kind basis.number) range; counted = omega (arith, now, grows) };
        bytes_are = carry (trans_begins (longer whole) later) (λ (w : Widths). bytes ≡ kind_bytes w basis.kind basis.number) basis.is_id;
      };
      stands = value_keeps row qual name later l (reverse_uid bytes qual) (claim_wrote st.before who row qual name here.2);
    }

pub reverse_after : (h : History) (bytes qual name : List ℕ) → IsLawful h → value_at (store_after h) (reverse_row bytes) qual ≡ Some name → IsReverse (store_after h) bytes qual name
reverse_after h bytes qual name l is =
    let row : Row = reverse_row bytes in
    let st = mapped_Some (content_at (store_after h) row qual) name is in
    subst (λ v. IsReverse (store_after h) bytes qual v) st.value_is
    (elim (came h (place_of row qual) st.content l (reverse_uid bytes qual) st.is) [
      | inl based ↦
          let r = (base_sound h l).reverse bytes qual st.content.value (ap (option_map (λ (c : Content). c.value)) based) in
          record { kind = r.kind; id = r.id; is_kind = r.is_kind; is_name = r.is_name; given = given_keeps r.kind r.id (base_begins h) l r.given; bytes_are = carry (base_begins h) (λ (w : Widths). bytes ≡ kind_bytes w r.kind r.id) r.bytes_are }
      | inr c ↦
          (reverse_had h (Then c.before (claimed c.caller row qual st.content.value)) c.caller bytes qual st.content.value c.begins (lawful_begins c.begins l) l (len c.before + 1, entry_at-last c.before (claimed c.caller row qual st.content.value))).is
    ])

Ids_Points : Ids ≢ Points
Ids_Points e = cc

name_uid : (name qual : List ℕ) → name ≢ 0 ∷ [] → IsUid (place_of (name_row name) qual)
name_uid name qual ne = record { no_counter = λ e. ne (ap (λ (r : Row). r.bytes) e); no_point = Ids_Points }

forward_after : (h : History) (name qual value : List ℕ) → IsLawful h → name ≢ 0 ∷ [] → value_at (store_after h) (name_row name) qual ≡ Some value → IsForward (store_after h) name qual value
forward_after h name qual value l ne is =
    let row : Row = name_row name in
    let st = mapped_Some (content_at (store_after h) row qual) value is in
    subst (λ v. IsForward (store_after h) name qual v) st.value_is
    (elim (came h (place_of row qual) st.content l (name_uid name qual ne) st.is) [
      | inl based ↦
          let r = (base_sound h l).forward name qual st.content.value ne (ap (option_map (λ (c : Content). c.value)) based) in
          record {
            kind = r.kind;
            id = r.id;
            is_kind = r.is_kind;
            is_name = r.is_name;
            given = given_keeps r.kind r.id (base_begins h) l r.given;
            value_is = carry (base_begins h) (λ (w : Widths). st.content.value ≡ kind_bytes w r.kind r.id) r.value_is;
            name_is = carry (base_begins h) (λ (w : Widths). value_at (store_after h) (id_row w r.kind r.id) (kind_qual r.kind) ≡ Some name)
                (value_keeps (id_row (base_of h).widths r.kind r.id) (kind_qual r.kind) name (base_begins h) l (reverse_uid (kind_bytes (base_of h).widths r.kind r.id) (kind_qual r.kind)) r.name_is);
          }
      | inr c ↦
          let here = lawful_begins c.begins l in
          let basis : IdsBasis (Had c.before) name qual st.content.value = here.1.may in
          let r = reverse_had h c.before basis.who st.content.value qual name (trans_begins (longer whole) c.begins) here.0 l basis.reversed in
          record {
            kind = r.is.kind;
            id = r.is.id;
            is_kind = r.is.is_kind;
            is_name = r.is.is_name;
            given = r.is.given;
            value_is = r.is.bytes_are;
            name_is = subst (λ (x : List ℕ). value_at (store_after h) (reverse_row x) (kind_qual r.is.kind) ≡ Some name) r.is.bytes_are
                (subst (λ (x : List ℕ). value_at (store_after h) (reverse_row st.content.value) x ≡ Some name) r.is.is_kind r.stands);
          }
    ])

-- a counter cell that the step didn't write was there before
counter_other : (s : Store) (row : Row) (q value qual v : List ℕ) (version : ℕ) → place_of counter_row qual ≢ place_of row q → value_at (written s row q value version) counter_row qual ≡ Some v → value_at s counter_row qual ≡ Some v
counter_other s row q value qual v version ne is =
    value_step s (written s row q value version) counter_row qual v (λ c e. sym (content-written_other s row q value version (place_of counter_row qual) ne) ∙ e) is

apart : (row : Row) (qual q : List ℕ) → counter_row ≢ row → place_of counter_row qual ≢ place_of row q
apart row qual q ne e = ne (ap (λ (p : Place). p.row) e)

same_value : (x y : List ℕ) → Some x ≡ Some y → x ≡ y
same_value x y e = cc

claim_counters : (s : Store) (row : Row) (q value qual v : List ℕ) (version : ℕ) (o : Option (List ℕ)) → counter_row ≢ row → value_at (or_written o (written s row q value version) s) counter_row qual ≡ Some v → value_at s counter_row qual ≡ Some v
claim_counters s row q value qual v version None ne is = counter_other s row q value qual v version (apart row qual q ne) is
claim_counters s row q value qual v version (Some w) ne is = is

step_counters : (h : History) (caller : ℕ) (step : Step) (place : ℕ) → IsLawful h → MayStep h caller step → CountersRead (store_after h) → CountersRead (after (store_after h) place step)
step_counters h caller Open place l may go qual v is = go qual v is
step_counters h caller (Read row) place l may go qual v is = go qual v is
step_counters h caller (NextRow table from to) place l may go qual v is = go qual v is
step_counters h caller (Bump kind) place l may go qual v is = at (nat_lt (counter_of (store_after h) kind) (greatest (store_after h).widths kind)) refl is (same_or_not (place_of counter_row qual) (place_of counter_row (kind_qual kind)))
  where
    s : Store
    s = store_after h

    bytes : List ℕ
    bytes = to_be_bytes w64 (counter_of (store_after h) kind + 1)

    at : (b : Bool) → nat_lt (counter_of (store_after h) kind) (greatest (store_after h).widths kind) ≡ b
        → value_at (if b then written (store_after h) counter_row (kind_qual kind) (to_be_bytes w64 (counter_of (store_after h) kind + 1)) (place % 2 ^ 64) else store_after h) counter_row qual ≡ Some v
        → (place_of counter_row qual ≡ place_of counter_row (kind_qual kind)) ⊎ (place_of counter_row qual ≢ place_of counter_row (kind_qual kind)) → IsCounter (store_after h).widths qual v
    at false t e d = go qual v e
    at true t e (inr ne) = go qual v (counter_other (store_after h) counter_row (kind_qual kind) (to_be_bytes w64 (counter_of (store_after h) kind + 1)) qual v (place % 2 ^ 64) ne e)
    at true t e (inl same) =
        let below : counter_of (store_after h) kind < greatest (store_after h).widths kind = search (rules, t) in
        let here = value-written (store_after h) counter_row (kind_qual kind) (to_be_bytes w64 (counter_of (store_after h) kind + 1)) (place % 2 ^ 64) in
        let there = subst (λ (p : Place). value_at (written (store_after h) counter_row (kind_qual kind) (to_be_bytes w64 (counter_of (store_after h) kind + 1)) (place % 2 ^ 64)) p.row p.qual ≡ Some v) same e in
        record { kind = kind; number = counter_of (store_after h) kind + 1; is_kind = ap (λ (p : Place). p.qual) same; least = omega arith; most = omega (arith, below); value_is = same_value v _ (sym there ∙ here) }
step_counters h caller (Claim row q value) place l may go qual v is = go qual v (claim_counters (store_after h) row q value qual v _ (value_at (store_after h) row q) (claim_differs h caller row q value l may) is)
step_counters h caller (PutPoint point row q value) place l may go qual v is = go qual v (counter_other (store_after h) row q value qual v _ (apart row qual q (point_differs row may.in_points)) is)
step_counters h caller (AppendPoint point row piece) place l may go qual v is = go qual v (counter_other (store_after h) row column_qual _ qual v _ (apart row qual column_qual (point_differs row may.put.in_points)) is)
step_counters h caller (PutMerged row q value) place l may go qual v is = go qual v (counter_other (store_after h) row q value qual v _ (apart row qual q (point_differs row may.in_points)) is)
step_counters h caller (DropCells row which) place l may go qual v is = go qual v (value_step (store_after h) (dropped (store_after h) row which) counter_row qual v (λ c e. get-dropped (store_after h) row which (place_of counter_row qual) c e) is)

counters_after : (h : History) → IsLawful h → CountersRead (store_after h)
counters_after (Base base) l = l.sound.counters
counters_after (Then h e) l = step_counters h e.caller e.step (len h + 1) l.0 l.1.may (counters_after h l.0)

pub stays_sound : StaysSound
stays_sound h l = record {
  counters = counters_after h l;
  forward = λ name qual value ne is. forward_after h name qual value l ne is;
  reverse = λ bytes qual name is. reverse_after h bytes qual name l is;
  rows = λ row qual value p is. row_resolved h row qual value l p is;
  cells = λ row qual value p is. each_reads h row qual value l p is;
}

-- a resolved name's id is taken
taken : (h : History) (kind : Kind) (name : List ℕ) (id : ℕ) → IsLawful h → IsName name → name ≢ 0 ∷ [] → id_of h kind name ≡ Some id → IsTaken h kind id
taken h kind name id l n ne is =
    let f = forward h kind name id l n is in
    let g = forward_after h name (kind_qual kind) f.value l ne f.is in
    let one_kind : kind ≡ g.kind = same_kind kind g.kind g.is_kind in
    let one : f.back.id ≡ g.id = same_number (store_after h).widths kind f.back.id g.id f.back.most (subst (λ (k : Kind). g.id ≤ greatest (store_after h).widths k) (sym one_kind) g.given.is_id.1)
    (sym f.back.value_is ∙ subst (λ (k : Kind). f.value ≡ kind_bytes (store_after h).widths k g.id) (sym one_kind) g.value_is) in
    record {
      name = name;
      is_name = n;
      id_is = is;
      name_is = names_back h kind name id l n is;
      counted = subst (λ (k : Kind). id ≤ counter_of (store_after h) k) (sym one_kind) (subst (λ x. x ≤ counter_of (store_after h) g.kind) (sym one ∙ f.id_is) g.given.counted);
    }

pub row_ids_are_taken : RowIdsAreTaken
row_ids_are_taken h row q v l is =
    let r = row_resolved h (point_row row) q v l refl is in (
      r.key,
      r.is_key,
      r.row_is,
      record {
        metric = taken h Metric r.name r.key.metric l r.is_name (not_zero r.name r.is_name) r.metric_is;
        tags = λ i c.
            let w = r.each i c in
            (taken h TagKey w.0.0 i.0 l w.1 (not_zero w.0.0 w.1) w.3, taken h TagValue w.0.1 i.1 l w.2 (not_zero w.0.1 w.2) w.4);
      },
    )
