-- What seen entries show of ids and names.
use Rattle.std.proofs.Common.{◌≡◌, inl, inr, ℕ, ◌+◌, ◌≤◌, ◌<◌, List, sym, ap, subst, ◌∙◌, arith}
use Rattle.std.specs.Prelude.{Some, option_map}
use Rattle.cell_model.specs.declared.row.Row.{Row}
use Rattle.tsd_base.specs.declared.kinds.Kind.{Kind}
use Rattle.cell_model.specs.declared.events.Step.TheVariants.{Claim}
use Rattle.cell_model.specs.declared.answers.Claimed.TheVariants.{Held}
use Rattle.cell_model.specs.declared.events.Content.{Content}
use Rattle.cell_model.specs.Store.{Store, place_of, content_at, value_at}
use Rattle.cell_model.specs.Machine.{counter_of, kind_qual, greatest}
use Rattle.cell_model.specs.declared.events.Reply.TheVariants.{ClaimReply}
use Rattle.cell_model.specs.declared.events.Entry.{Entry}
use Rattle.cell_model.specs.History.{History, len, store_after, entry_at, base_of, Had}
use Rattle.cell_model.specs.History.History.{Base, Then}
use Rattle.cell_laws.proofs.Beginnings.Begins.{whole, longer}
use Rattle.cell_model.specs.KindWidths.{Widths, IsKindId, kind_bytes}
use Rattle.cell_model.specs.IdRows.{id_number}
use Rattle.cell_laws.proofs.SameWidths.{carry, seen_back, seen_carry, seen_widths}
use Rattle.cell_model.specs.Lawful.{IsLawful, NamesBasis, claimed, given}
use Rattle.cell_laws.proofs.Keeps.{stood, lawful_begins}
use Rattle.cell_laws.proofs.Ids.{came, reverse_uid, mapped_Some, base_begins, base_sound, trans_begins, given_range}
use Rattle.cell_laws.proofs.LawsHold.{number-bytes}
use Rattle.cell_laws.proofs.Entries.{entry_at-more, entry_at-last}
use Rattle.std.specs.Prelude.{option_and_then}
use Rattle.cell_laws.proofs.Beginnings.{Begins}
use Rattle.cell_model.specs.IdRows.{name_row, id_row}
use Rattle.cell_laws.specs.Laws.{SeenIdStands, SeenNameStands, GivenIsId, GivenIsFree}
use Rattle.cell_laws.proofs.Ids.{same_kind, value_keeps, forward_uid, reversed}
use Rattle.cell_laws.proofs.Counters.{counter_keeps, given_counts, same_number, len_begins, Order, order, shorter, last_caller, given_once, held_there, base_of_begins}
use Rattle.cell_laws.proofs.Counters.Order.{first_before, same_place, second_before}
use Rattle.cell_laws.proofs.Known.{known_cell}
use Rattle.cell_laws.proofs.Sounding.{reverse_after}

pub seen_id_stands : SeenIdStands
seen_id_stands s h kind name value l f n k =
    let st = known_cell s h (name_row name) (kind_qual kind) value l f k in
    let stands = value_keeps (name_row name) (kind_qual kind) value st.begins l (forward_uid name (kind_qual kind) n) st.stands in
    let r = reversed h kind name value l n stands in
    let number = ap id_number r.value_is ∙ number-bytes (store_after h).widths kind r.id r.most in
    (r.id, seen_back f (λ (w : Widths). IsKindId w kind r.id) (r.least, r.most), seen_back f (λ (w : Widths). value ≡ kind_bytes w kind r.id) r.value_is, number, ap (option_and_then id_number) stands ∙ number)

pub seen_name_stands : SeenNameStands
seen_name_stands s h kind id name l f k =
    let row = id_row s.base.widths kind id in
    let st = known_cell s h row (kind_qual kind) name l f k in
    let stands = value_keeps row (kind_qual kind) name st.begins l (reverse_uid (kind_bytes s.base.widths kind id) (kind_qual kind)) st.stands in
    ((reverse_after h (kind_bytes s.base.widths kind id) (kind_qual kind) name l stands).is_name, seen_carry f (λ (w : Widths). value_at (store_after h) (id_row w kind id) (kind_qual kind) ≡ Some name) stands)

pub given_is_id : GivenIsId
given_is_id s h place caller kind id l f saw =
    let st = stood h place (given caller kind id) (f.seen place (given caller kind id) saw) in
    seen_back f (λ (w : Widths). IsKindId w kind id) (carry (trans_begins (longer whole) st.begins) (λ (w : Widths). IsKindId w kind id) (given_range (greatest (store_after st.before).widths kind) (counter_of (store_after st.before) kind) id (lawful_begins st.begins l).2))

based_low : (a b : History) {e : Entry} (kind : Kind) → Begins (Then a e) b → IsLawful a → counter_of (base_of b) kind ≤ counter_of (store_after a) kind
based_low a b kind w l = subst (λ (s : Store). counter_of s kind ≤ counter_of (store_after a) kind) (base_of_begins w) (counter_keeps kind (base_begins a) l)

-- a claim of a reverse cell that found it held, by the caller that was given the id: the caller had claimed it itself since then
pub record OwnBetween (h : History) (caller from to : ℕ) : Type 0 where
  pub place : ℕ
  pub entry : Entry
  pub stands : entry_at h place ≡ Some entry
  pub own : entry.caller ≡ caller
  pub above : from < place
  pub below : place < to

begins_at : {h b : History} {e : Entry} → Begins (Then b e) h → entry_at h (len b + 1) ≡ Some e
begins_at {b = b} {e = e} whole = entry_at-last b e
begins_at {e = e} (longer {h = h} {e = last} w) = entry_at-more h last e _ (begins_at w)

pub held_between : (h a b : History) (caller : ℕ) (kind : Kind) (id : ℕ) (name held : List ℕ) → IsLawful h → id ≤ greatest (store_after h).widths kind
    → Begins (Then a (given caller kind id)) b → Begins (Then b (record { caller = caller; step = Claim (id_row (store_after h).widths kind id) (kind_qual kind) name; reply = ClaimReply (Held held) })) h
    → OwnBetween h caller (len a + 1) (len b + 1)
held_between h a b caller kind id name held l most ba bb =
    let here = lawful_begins bb l in
    let row : Row = id_row (store_after h).widths kind id in
    let bytes = kind_bytes (store_after h).widths kind id in
    let there = held_there (value_at (store_after b) row (kind_qual kind)) held here.2 in
    let st = mapped_Some (content_at (store_after b) row (kind_qual kind)) held there in
    let la = lawful_begins ba here.0 in
    let count = given_counts a caller kind id la in
    elim (came b (place_of row (kind_qual kind)) st.content here.0 (reverse_uid bytes (kind_qual kind)) st.is) [
      | inl based ↦
          let c = (base_sound b here.0).reverse bytes (kind_qual kind) st.content.value (ap (option_map (λ (c : Content). c.value)) based) in
          let one_kind = same_kind kind c.kind c.is_kind in
          let start : Begins (Base (base_of b)) h = trans_begins (base_begins b) (trans_begins (longer whole) bb) in
          let is_id : IsKindId (store_after h).widths kind c.id = carry start (λ (w : Widths). IsKindId w kind c.id) (subst (λ (k : Kind). IsKindId (base_of b).widths k c.id) (sym one_kind) c.given.is_id) in
          let bytes_are : bytes ≡ kind_bytes (store_after h).widths kind c.id = carry start (λ (w : Widths). bytes ≡ kind_bytes w kind c.id) (subst (λ (k : Kind). bytes ≡ kind_bytes (base_of b).widths k c.id) (sym one_kind) c.bytes_are) in
          let one = same_number (store_after h).widths kind id c.id most is_id.1 bytes_are in
          let low : c.id ≤ counter_of (base_of b) kind = subst (λ (k : Kind). c.id ≤ counter_of (base_of b) k) (sym one_kind) c.given.counted in
          let grows : counter_of (base_of b) kind ≤ counter_of (store_after a) kind = based_low a b kind ba la.0 in
          absurd (omega (arith, one, low, grows, count.above))
      | inr cm ↦
          let claim = lawful_begins cm.begins here.0 in
          let basis : NamesBasis (store_after cm.before).widths (Had cm.before) cm.caller bytes (kind_qual kind) st.content.value = claim.1.may in
          let one_kind = same_kind kind basis.kind basis.is_kind in
          let bump = stood cm.before basis.bumped.0 (given cm.caller basis.kind basis.number) basis.bumped.1 in
          let early : Begins cm.before h = trans_begins (trans_begins (longer whole) cm.begins) (trans_begins (longer whole) bb) in
          let range = carry (trans_begins (trans_begins (longer whole) bump.begins) early) (λ (w : Widths). IsKindId w basis.kind basis.number)
          (given_range (greatest (store_after bump.before).widths basis.kind) (counter_of (store_after bump.before) basis.kind) basis.number (lawful_begins bump.begins claim.0).2) in
          let is_id : IsKindId (store_after h).widths kind basis.number = subst (λ (k : Kind). IsKindId (store_after h).widths k basis.number) (sym one_kind) range in
          let bytes_are : bytes ≡ kind_bytes (store_after h).widths kind basis.number = subst (λ (k : Kind). bytes ≡ kind_bytes (store_after h).widths k basis.number) (sym one_kind) (carry early (λ (w : Widths). bytes ≡ kind_bytes w basis.kind basis.number) basis.is_id) in
          let one_id = same_number (store_after h).widths kind id basis.number most is_id.1 bytes_are in
          let bump_begins : Begins (Then bump.before (given cm.caller kind id)) b =
          subst (λ (n : ℕ). Begins (Then bump.before (given cm.caller kind n)) b) (sym one_id)
          (subst (λ (k : Kind). Begins (Then bump.before (given cm.caller k basis.number)) b) (sym one_kind) (trans_begins (longer bump.begins) cm.begins)) in
          let once = given_once kind caller cm.caller id here.0 ba bump_begins in
          let claim_place = begins_at cm.begins in
          let long = len_begins bump.begins in
          let whole_long = len_begins cm.begins in
          record {
            place = len cm.before + 1;
            entry = claimed cm.caller row (kind_qual kind) st.content.value;
            stands = begins_at (trans_begins cm.begins (trans_begins (longer whole) bb));
            own = sym (ap last_caller once);
            above = let eq : len a ≡ len bump.before = ap (λ x. len (shorter x)) once in omega (arith, eq, long);
            below = omega (arith, whole_long);
          }
    ]

-- of two entries the one at the lower place stands before
pub goes_before : {h a b : History} {x y : Entry} → Begins (Then a x) h → Begins (Then b y) h → len a < len b → Begins (Then a x) b
goes_before {h} {a} {b} {x} {y} ba bb lt = at (order ba bb)
  where
    at : Order a b x y → Begins (Then a x) b
    at (first_before w) = w
    at (same_place e) = let same : len a + 1 ≡ len b + 1 = ap len e in absurd (omega (arith, same, lt))
    at (second_before w) = let low = len_begins w in absurd (omega (arith, low, lt))

pub given_is_free : GivenIsFree
given_is_free s1 s2 s3 kind id name held bump claim p3 =
    let h = p3.history in
    let first = stood h s2.length (given s1.caller kind id) (p3.fits.seen _ _ (claim.kept _ _ bump.stepped)) in
    let second = stood h s3.length _ (p3.fits.seen _ _ claim.stepped) in
    let before : Begins (Then first.before (given s1.caller kind id)) second.before = goes_before first.begins second.begins (omega (arith, first.place_is, second.place_is, claim.length)) in
    let range = carry (trans_begins (longer whole) first.begins) (λ (w : Widths). IsKindId w kind id) (given_range (greatest (store_after first.before).widths kind) (counter_of (store_after first.before) kind) id (lawful_begins first.begins p3.lawful).2) in
    let widths_are : s1.base.widths ≡ (store_after h).widths = ap (λ (s : Store). s.widths) (sym bump.base ∙ sym claim.base) ∙ seen_widths s3 h p3.fits in
    let caller_is : s2.caller ≡ s1.caller = bump.caller in
    let own = held_between h first.before second.before s1.caller kind id name held p3.lawful range.1 before
    (subst (λ (n : ℕ). Begins (Then second.before (record { caller = n; step = Claim (id_row (store_after h).widths kind id) (kind_qual kind) name; reply = ClaimReply (Held held) })) h) caller_is
    (subst (λ (w : Widths). Begins (Then second.before (record { caller = s2.caller; step = Claim (id_row w kind id) (kind_qual kind) name; reply = ClaimReply (Held held) })) h) widths_are second.begins)) in
    let saw = claim.no_own own.place own.entry (p3.fits.no_other own.place own.entry (omega (arith, own.below, second.place_is)) (inl (own.own ∙ sym caller_is ∙ sym claim.caller)) own.stands) (inl (own.own ∙ sym caller_is))
    (λ e. omega (arith, own.below, second.place_is, e)) in
    let low = saw.0 in
    omega (arith, low, own.above, first.place_is)
