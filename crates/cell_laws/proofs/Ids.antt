-- A resolved name keeps its id, and no other resolved name of its kind has it.
use Rattle.std.proofs.Common.{◌≡◌, ◌≢◌, ◌⊎◌, inl, inr, ℕ, ◌+◌, ◌%◌, ◌^◌, ◌≤◌, ◌<◌, Bool, true, false, List, [], ◌∷◌, refl, sym, ap, subst, ◌∙◌, arith, rules}
use Rattle.std.specs.Prelude.{Option, None, Some, option_map, nat_lt, if◌then◌else◌, slice_index_or}
use Rattle.row_key.specs.declared.tables.Table.TheVariants.{Ids, Names, Points}
use Rattle.qual_codec.specs.CellDots.{column_qual}
use Rattle.cell_model.specs.declared.row.Row.{Row}
use Rattle.tsd_base.specs.declared.kinds.Kind.{Kind}
use Rattle.cell_model.specs.declared.events.Step.{Step}
use Rattle.cell_model.specs.declared.events.Step.TheVariants.{Open, Read, NextRow, Bump, Claim, PutPoint, AppendPoint, PutMerged, DropCells}
use Rattle.cell_model.specs.declared.answers.Claimed.TheVariants.{Done}
use Rattle.cell_model.specs.declared.answers.Bumped.TheVariants.{Given, Full}
use Rattle.std.specs.Int.{w64, to_be_bytes}
use Rattle.cell_model.specs.declared.events.Place.{Place}
use Rattle.cell_model.specs.declared.events.Content.{Content}
use Rattle.cell_model.specs.Store.{Store, place_of, content_at, value_at, written, get}
use Rattle.cell_model.specs.Machine.{after, reply_of, claim_reply, or_written, counter_row, counter_of, kind_qual, greatest}
use Rattle.cell_model.specs.declared.events.Reply.TheVariants.{BumpReply, ClaimReply}
use Rattle.cell_model.specs.declared.events.Entry.{Entry}
use Rattle.cell_model.specs.History.{History, len, store_after, base_of, Had}
use Rattle.cell_laws.proofs.Beginnings.{Begins}
use Rattle.cell_model.specs.History.History.{Base, Then}
use Rattle.cell_laws.proofs.Beginnings.Begins.{whole, longer}
use Rattle.tsd_base.specs.Alphabet.{is_name_byte, IsName}
use Rattle.std.specs.List.{list_all}
use Rattle.tsd_base.specs.declared.kinds.Kind.TheVariants.{Metric, TagKey, TagValue}
use Rattle.cell_model.specs.Sound.{IsSound}
use Rattle.cell_model.specs.KindWidths.{Widths, kind_bytes}
use Rattle.cell_model.specs.IdRows.{name_row, id_row, name_in}
use Rattle.cell_model.specs.Lawful.{IsLawful, MayStep, NamesBasis, IdsBasis, claimed, given}
use Rattle.cell_model.proofs.CallerLemmas.{content-written, content-written_other, get-dropped_other, same_or_not}
use Rattle.cell_laws.proofs.SameWidths.{carry}
use Rattle.cell_laws.proofs.Keeps.{IsUid, other_row, points_other, keeps, stood, lawful_begins}

-- the name's forward cell has this value, the bytes of an id whose reverse cell has the name
pub record Reversed (s : Store) (kind : Kind) (name value : List ℕ) : Type 0 where
  pub id : ℕ
  pub least : 1 ≤ id
  pub most : id ≤ greatest s.widths kind
  pub value_is : value ≡ kind_bytes s.widths kind id
  pub name_is : name_in s kind id ≡ Some name

-- kinds are told apart by their qualifiers
pub same_kind : (a b : Kind) → kind_qual a ≡ kind_qual b → a ≡ b
same_kind Metric Metric e = refl
same_kind TagKey TagKey e = refl
same_kind TagValue TagValue e = refl
same_kind Metric TagKey e = cc
same_kind Metric TagValue e = cc
same_kind TagKey Metric e = cc
same_kind TagKey TagValue e = let last : 107 ≡ 118 = ap (λ (xs : List ℕ). slice_index_or xs 3 0) e in absurd (omega (arith, last))
same_kind TagValue Metric e = cc
same_kind TagValue TagKey e = let last : 118 ≡ 107 = ap (λ (xs : List ℕ). slice_index_or xs 3 0) e in absurd (omega (arith, last))

-- the cell came with the base, or by a claim in the history
pub record Came (h : History) (p : Place) (value : List ℕ) : Type 0 where
  pub before : History
  pub caller : ℕ
  pub begins : Begins (Then before (claimed caller p.row p.qual value)) h

-- the step wrote it
pub record Wrote (s : Store) (step : Step) (p : Place) (c : Content) : Type 0 where
  pub step_is : step ≡ Claim p.row p.qual c.value
  pub absent : value_at s p.row p.qual ≡ None

claim_from : (s : Store) (row : Row) (qual value : List ℕ) (version : ℕ) (p : Place) (c : Content)
    → (o : Option (List ℕ)) → value_at s row qual ≡ o → get (or_written o (written s row qual value version) s) p ≡ Some c → (p ≡ place_of row qual) ⊎ (p ≢ place_of row qual)
    → (get s p ≡ Some c) ⊎ Wrote s (Claim row qual value) p c
claim_from s row qual value version p c None none is (inl same) =
    let w = content-written s row qual value version in
    let moved : Some (record { value = value; version = version }) ≡ Some c = sym w ∙ ap (get (written s row qual value version)) (sym same) ∙ is in
    let whole_is : ◌≡◌ {A = Content} (record { value = value; version = version }) c = cc in
    inr (record {
      step_is = λ i. Claim ((sym same i).row) ((sym same i).qual) ((whole_is i).value);
      absent = ap (λ (x : Place). value_at s x.row x.qual) same ∙ none;
    })
claim_from s row qual value version p c None none is (inr other) = inl (sym (content-written_other s row qual value version p other) ∙ is)
claim_from s row qual value version p c (Some v) some is d = inl is

pub step_from : (h : History) (caller : ℕ) (step : Step) (s : Store) (place : ℕ) (p : Place) (c : Content) → MayStep h caller step → IsUid p → get (after s place step) p ≡ Some c → (get s p ≡ Some c) ⊎ Wrote s step p c
step_from h caller Open s place p c may u is = inl is
step_from h caller (Read row) s place p c may u is = inl is
step_from h caller (NextRow table from to) s place p c may u is = inl is
step_from h caller (Bump kind) s place p c may u is = at (nat_lt (counter_of s kind) (greatest s.widths kind)) is
  where
    at : (b : Bool) → get (if b then written s counter_row (kind_qual kind) (to_be_bytes w64 (counter_of s kind + 1)) (place % 2 ^ 64) else s) p ≡ Some c → (get s p ≡ Some c) ⊎ Wrote s (Bump kind) p c
    at true is = inl (sym (content-written_other s counter_row (kind_qual kind) _ _ p (other_row p counter_row (kind_qual kind) u.no_counter)) ∙ is)
    at false is = inl is
step_from h caller (Claim row qual value) s place p c may u is = claim_from s row qual value _ p c (value_at s row qual) refl is (same_or_not p (place_of row qual))
step_from h caller (PutPoint point row qual value) s place p c may u is = inl (sym (content-written_other s row qual value _ p (other_row p row qual (points_other p u row may.in_points))) ∙ is)
step_from h caller (AppendPoint point row piece) s place p c may u is = inl (sym (content-written_other s row column_qual _ _ p (other_row p row column_qual (points_other p u row may.put.in_points))) ∙ is)
step_from h caller (PutMerged row qual value) s place p c may u is = inl (sym (content-written_other s row qual value _ p (other_row p row qual (points_other p u row may.in_points))) ∙ is)
step_from h caller (DropCells row which) s place p c may u is = inl (sym (get-dropped_other s row which p (points_other p u row may.in_points)) ∙ is)

entry_is : (h : History) (e : Entry) (p : Place) (c : Content) → e.reply ≡ reply_of (store_after h) (len h + 1) e.step → Wrote (store_after h) e.step p c → e ≡ claimed e.caller p.row p.qual c.value
entry_is h e p c legal w =
    let reply_is : e.reply ≡ ClaimReply Done = legal ∙ ap (reply_of (store_after h) (len h + 1)) w.step_is ∙ ap (λ o. ClaimReply (claim_reply o)) w.absent in
    λ i. record { caller = e.caller; step = w.step_is i; reply = reply_is i }

pub came : (h : History) (p : Place) (c : Content) → IsLawful h → IsUid p → get (store_after h) p ≡ Some c → (get (base_of h) p ≡ Some c) ⊎ Came h p c.value
came (Base base) p c lawful u is = inl is
came (Then h e) p c lawful u is =
    elim (step_from h e.caller e.step (store_after h) (len h + 1) p c lawful.1.may u is) [
      | inl was ↦ elim (came h p c lawful.0 u was) [ inl based ↦ inl based | inr r ↦ inr (record { before = r.before; caller = r.caller; begins = longer r.begins }) ]
      | inr w ↦ inr (record { before = h; caller = e.caller; begins = subst (λ x. Begins (Then h x) (Then h e)) (entry_is h e p c lawful.2 w) whole })
    ]

Ids_Points : Ids ≢ Points
Ids_Points e = cc

Names_Points : Names ≢ Points
Names_Points e = cc

pub Names_Ids : Names ≢ Ids
Names_Ids e = cc

pub not_zero : (name : List ℕ) → IsName name → name ≢ 0 ∷ []
not_zero name n e = let zero_in : false ≡ true = subst (λ (xs : List ℕ). list_all is_name_byte xs ≡ true) e n.alphabet in cc

pub forward_uid : (name qual : List ℕ) → IsName name → IsUid (place_of (name_row name) qual)
forward_uid name qual n = record { no_counter = λ e. not_zero name n (ap (λ (r : Row). r.bytes) e); no_point = Ids_Points }

pub reverse_uid : (bytes qual : List ℕ) → IsUid (place_of (record { table = Names; bytes = bytes }) qual)
reverse_uid bytes qual = record { no_counter = λ e. Names_Ids (ap (λ (r : Row). r.table) e); no_point = Names_Points }

-- a value stands there with some version
pub record Stands (o : Option Content) (value : List ℕ) : Type 0 where
  pub content : Content
  pub is : o ≡ Some content
  pub value_is : content.value ≡ value

pub mapped_Some : (o : Option Content) (value : List ℕ) → option_map (λ (c : Content). c.value) o ≡ Some value → Stands o value
mapped_Some None value e = cc
mapped_Some (Some c) value e = record { content = c; is = refl; value_is = cc }

pub base_begins : (h : History) → Begins (Base (base_of h)) h
base_begins (Base base) = whole
base_begins (Then h e) = longer (base_begins h)

pub base_sound : (h : History) → IsLawful h → IsSound (base_of h)
base_sound (Base base) l = l.sound
base_sound (Then h e) l = base_sound h l.0

-- a value stays
pub value_keeps : {h0 h : History} (row : Row) (qual value : List ℕ) → Begins h0 h → IsLawful h → IsUid (place_of row qual) → value_at (store_after h0) row qual ≡ Some value → value_at (store_after h) row qual ≡ Some value
value_keeps {h0} {h} row qual value b l u is =
    let st = mapped_Some (content_at (store_after h0) row qual) value is in
    ap (option_map (λ (c : Content). c.value)) (keeps (place_of row qual) st.content b l u st.is) ∙ ap Some st.value_is

pub trans_begins : {h0 h1 h2 : History} → Begins h0 h1 → Begins h1 h2 → Begins h0 h2
trans_begins a whole = a
trans_begins a (longer b) = longer (trans_begins a b)

done_absent : (o : Option (List ℕ)) → ClaimReply Done ≡ ClaimReply (claim_reply o) → o ≡ None
done_absent None e = refl
done_absent (Some v) e = cc

-- a claim that was done wrote its cell
pub claim_wrote : (h : History) (who : ℕ) (row : Row) (qual value : List ℕ) → ClaimReply Done ≡ reply_of (store_after h) (len h + 1) (Claim row qual value) → value_at (store_after (Then h (claimed who row qual value))) row qual ≡ Some value
claim_wrote h who row qual value legal =
    let s = store_after h in
    let version = (len h + 1) % 2 ^ 64 in
    ap (λ o. value_at (or_written o (written s row qual value version) s) row qual) (done_absent (value_at s row qual) legal)
    ∙ ap (option_map (λ (c : Content). c.value)) (content-written s row qual value version)

pub given_range : (most n number : ℕ) → BumpReply (Given number) ≡ BumpReply (if nat_lt n most then Given (n + 1) else Full) → (1 ≤ number) × (number ≤ most)
given_range most n number = at (nat_lt n most) refl
  where
    at : (b : Bool) → nat_lt n most ≡ b → BumpReply (Given number) ≡ BumpReply (if b then Given (n + 1) else Full) → (1 ≤ number) × (number ≤ most)
    at true t e = let is : number ≡ n + 1 = cc in let below : n < most = search (rules, t) in (omega (arith, is), omega (arith, is, below))
    at false t e = cc

-- what a claim of a reverse cell that was done shows of each later store
pub reverse_of : (h h1 : History) (who : ℕ) (kind : Kind) (id name : List ℕ) → Begins h1 h → IsLawful h1 → IsLawful h → Had h1 (claimed who (record { table = Names; bytes = id }) (kind_qual kind) name) → Reversed (store_after h) kind name id
reverse_of h h1 who kind id name b l1 l had =
    let row : Row = record { table = Names; bytes = id } in
    let st = stood h1 had.0 (claimed who row (kind_qual kind) name) had.1 in
    let here = lawful_begins st.begins l1 in
    let basis : NamesBasis (store_after st.before).widths (Had st.before) who id (kind_qual kind) name = here.1.may in
    let bump = stood st.before basis.bumped.0 (given who basis.kind basis.number) basis.bumped.1 in
    let before : Begins st.before h = trans_begins (longer whole) (trans_begins st.begins b) in
    let range = given_range (greatest (store_after bump.before).widths basis.kind) (counter_of (store_after bump.before) basis.kind) basis.number (lawful_begins bump.begins here.0).2 in
    let one_kind : basis.kind ≡ kind = sym (same_kind kind basis.kind basis.is_kind) in
    let most : basis.number ≤ greatest (store_after h).widths kind = subst (λ (k : Kind). basis.number ≤ greatest (store_after h).widths k) one_kind (carry (trans_begins (trans_begins (longer whole) bump.begins) before) (λ (w : Widths). basis.number ≤ greatest w basis.kind) range.1) in
    let value_is : id ≡ kind_bytes (store_after h).widths kind basis.number = subst (λ (k : Kind). id ≡ kind_bytes (store_after h).widths k basis.number) one_kind (carry before (λ (w : Widths). id ≡ kind_bytes w basis.kind basis.number) basis.is_id) in
    let stands = value_keeps row (kind_qual kind) name (trans_begins st.begins b) l (reverse_uid id (kind_qual kind)) (claim_wrote st.before who row (kind_qual kind) name here.2) in
    record {
      id = basis.number;
      least = range.0;
      most = most;
      value_is = value_is;
      name_is = ap (λ (x : List ℕ). value_at (store_after h) (record { table = Names; bytes = x }) (kind_qual kind)) (sym value_is) ∙ stands;
    }

-- each forward cell of a lawful history has its reverse cell
pub reversed : (h : History) (kind : Kind) (name value : List ℕ) → IsLawful h → IsName name → value_at (store_after h) (name_row name) (kind_qual kind) ≡ Some value → Reversed (store_after h) kind name value
reversed h kind name value l n is =
    let st = mapped_Some (content_at (store_after h) (name_row name) (kind_qual kind)) value is in
    subst (λ v. Reversed (store_after h) kind name v) st.value_is
    (elim (came h (place_of (name_row name) (kind_qual kind)) st.content l (forward_uid name (kind_qual kind) n) st.is) [
      | inl based ↦
          let r = (base_sound h l).forward name (kind_qual kind) st.content.value (not_zero name n) (ap (option_map (λ (c : Content). c.value)) based) in
          let one_kind : r.kind ≡ kind = sym (same_kind kind r.kind r.is_kind) in
          let start = base_begins h in
          let name_is : name_in (base_of h) kind r.id ≡ Some name = subst (λ (k : Kind). name_in (base_of h) k r.id ≡ Some name) one_kind r.name_is in
          record {
            id = r.id;
            least = r.given.is_id.0;
            most = carry start (λ (w : Widths). r.id ≤ greatest w kind) (subst (λ (k : Kind). r.id ≤ greatest (base_of h).widths k) one_kind r.given.is_id.1);
            value_is = carry start (λ (w : Widths). st.content.value ≡ kind_bytes w kind r.id) (subst (λ (k : Kind). st.content.value ≡ kind_bytes (base_of h).widths k r.id) one_kind r.value_is);
            name_is = carry start (λ (w : Widths). value_at (store_after h) (id_row w kind r.id) (kind_qual kind) ≡ Some name)
                (value_keeps (id_row (base_of h).widths kind r.id) (kind_qual kind) name start l (reverse_uid (kind_bytes (base_of h).widths kind r.id) (kind_qual kind)) name_is);
          }
      | inr c ↦
          let here = lawful_begins c.begins l in
          let basis : IdsBasis (Had c.before) name (kind_qual kind) st.content.value = here.1.may in
          reverse_of h c.before basis.who kind st.content.value name (trans_begins (longer whole) c.begins) here.0 l basis.reversed
    ])

-- who claimed a reverse cell claimed it for a name
pub claimed_name : (h : History) (who : ℕ) (id qual name : List ℕ) → IsLawful h → Had h (claimed who (record { table = Names; bytes = id }) qual name) → IsName name
claimed_name h who id qual name l had =
    let st = stood h had.0 (claimed who (record { table = Names; bytes = id }) qual name) had.1 in
    let here = lawful_begins st.begins l in
    let basis : NamesBasis (store_after st.before).widths (Had st.before) who id qual name = here.1.may in basis.is_name
