-- A name that gets the next id of its kind.
use Rattle.std.proofs.Common.{◌≡◌, ◌≢◌, ◌⊎◌, inl, inr, ℕ, ◌+◌, Bool, true, false, cond, List, [], ◌∷◌, ◌++◌, length, refl, sym, ap, subst, ◌∙◌, length-append}
use Rattle.std.specs.Prelude.{Option, None, Some, option_and_then}
use Rattle.std.specs.Option.{option_or, option_map_or}
use Rattle.std.specs.Int.{w64, from_be_bytes}
use Rattle.std.specs.Cmp.Lexicographic.{nat_list_eq_equiv, texts_ties}
use Rattle.std.proofs.lemmas.Map.Lookups.{exact_bytes}
use Rattle.std.proofs.lemmas.Map.Views.{tells_apart}
use Rattle.std.proofs.lemmas.Bool.{true≢false}
use Rattle.tsd_base.specs.Alphabet.{IsName}
use Rattle.tsd_base.specs.TagList.{is_same}
use Rattle.tsd_base.specs.declared.kinds.Kind.{Kind}
use Rattle.tsd_base.specs.declared.kinds.Kind.TheVariants.{Metric, TagKey, TagValue}
use Rattle.cell_model.specs.declared.answers.Claimed.{Claimed}
use Rattle.cell_model.specs.declared.answers.Claimed.TheVariants.{Done, Held}
use Rattle.cell_model.specs.declared.row.Row.{Row}
use Rattle.cell_model.specs.declared.events.Placed.{Placed}
use Rattle.cell_model.specs.declared.events.Reply.TheVariants.{ClaimReply}
use Rattle.cell_model.specs.declared.events.Step.TheVariants.{Claim}
use Rattle.cell_model.specs.History.{History, len, store_after}
use Rattle.cell_model.specs.History.History.{Then}
use Rattle.cell_model.specs.IdRows as model
use Rattle.cell_model.specs.IdRows.{id_number, id_of, id_row, name_row}
use Rattle.cell_model.specs.KindWidths.{Widths, IsKindId, kind_bytes}
use Rattle.cell_model.specs.Lawful.{IsLawful, given, claimed}
use Rattle.cell_model.specs.Machine.{counter_of, counter_row, kind_qual, claim_reply, reply_of}
use Rattle.cell_model.specs.Store.{place_of, value_at}
use Rattle.uid_table.specs.IdSteps.{DidLook, DidBump, DidReverse, DidForward}
use Rattle.cell_laws.proofs.CallerLemmas.{Names_Ids, claim_wrote, given_counts, held_there, same_kind, number-bytes as id_read_back}
use Rattle.point_lines.specs.NameIds.{Names, id_in, list_of, with_list}
use Rattle.point_lines.specs.LoneHistories.{HasIds, IsNumbered}
use Rattle.point_lines.proofs.NameLemmas.{id_in-append}
use Rattle.point_lines.proofs.StepKeeps.{bump_keeps, claim_keeps, looked, no_counter_row, quals_differ, read_keeps, rows_differ, tables_differ}

pub same_bytes : (x y : List ℕ) → is_same x y ≡ true → x ≡ y
same_bytes x y e = tells_apart exact_bytes x y (sym (texts_ties x y) ∙ e)

-- ---- lists of names
pub kinds : (a b : Kind) → (a ≡ b) ⊎ (a ≢ b)
kinds Metric Metric = inl refl
kinds Metric TagKey = inr (λ e. cc)
kinds Metric TagValue = inr (λ e. cc)
kinds TagKey Metric = inr (λ e. cc)
kinds TagKey TagKey = inl refl
kinds TagKey TagValue = inr (λ e. cc)
kinds TagValue Metric = inr (λ e. cc)
kinds TagValue TagKey = inr (λ e. cc)
kinds TagValue TagValue = inl refl

pub list_here : (names : Names) (kind : Kind) (list : List (List ℕ)) → list_of (with_list names kind list) kind ≡ list
list_here names Metric list = refl
list_here names TagKey list = refl
list_here names TagValue list = refl

pub list_other : (names : Names) (kind other : Kind) (list : List (List ℕ)) → kind ≢ other → list_of (with_list names kind list) other ≡ list_of names other
list_other names Metric Metric list d = absurd (d refl)
list_other names Metric TagKey list d = refl
list_other names Metric TagValue list d = refl
list_other names TagKey Metric list d = refl
list_other names TagKey TagKey list d = absurd (d refl)
list_other names TagKey TagValue list d = refl
list_other names TagValue Metric list d = refl
list_other names TagValue TagKey list d = refl
list_other names TagValue TagValue list d = absurd (d refl)

-- with one more name of the kind
abbrev pub grown : Names → Kind → List ℕ → Names
grown names kind name = with_list names kind (list_of names kind ++ name ∷ [])

-- ---- a read changes no id
pub numbered_same : (names : Names) (h h' : History) → store_after h' ≡ store_after h → IsNumbered names h → IsNumbered names h'
numbered_same names h h' same n = record {
  counts = λ kind. ap (λ s. counter_of s kind) same ∙ n.counts kind;
  ids = λ kind name is. ap (λ s. model.id_in s kind name) same ∙ n.ids kind name is;
}

-- ---- a name that gets an id
module _ (widths : Widths) (h : History) (r b n f : Placed) (kind : Kind) (name : List ℕ) (id : ℕ) (reply : Claimed) (names : Names) (is_name : IsName name)
    (lawful : IsLawful (Then (Then (Then (Then h r.entry) b.entry) n.entry) f.entry))
    (look : DidLook r kind name None) (bumped : DidBump b kind id) (reversed : DidReverse widths n kind name id) (forwarded : DidForward widths f kind name id reply) (numbered : IsNumbered names h) where
  abbrev h1 : History
  h1 = Then h r.entry

  abbrev h2 : History
  h2 = Then h1 b.entry

  abbrev h3 : History
  h3 = Then h2 n.entry

  abbrev h4 : History
  h4 = Then h3 f.entry

  same1 : store_after h1 ≡ store_after h
  same1 = read_keeps h r.entry (name_row name) look.did.0

  -- a name's cell before the last claim
  name_cell : (k : Kind) (m : List ℕ) → IsName m → value_at (store_after h3) (name_row m) (kind_qual k) ≡ value_at (store_after h) (name_row m) (kind_qual k)
  name_cell k m is =
      claim_keeps h2 n.entry (id_row widths kind id) (kind_qual kind) name (name_row m) (kind_qual k) reversed.0 (rows_differ (name_row m) (id_row widths kind id) _ _ (tables_differ (name_row m) (id_row widths kind id) (λ e. Names_Ids (sym e))))
      ∙ bump_keeps h1 b.entry kind (name_row m) (kind_qual k) bumped.0 (rows_differ (name_row m) counter_row _ _ (no_counter_row m is))
      ∙ ap (λ s. value_at s (name_row m) (kind_qual k)) same1

  -- and behind it
  other_cell : (k : Kind) (m : List ℕ) → IsName m → place_of (name_row m) (kind_qual k) ≢ place_of (name_row name) (kind_qual kind)
      → value_at (store_after h4) (name_row m) (kind_qual k) ≡ value_at (store_after h) (name_row m) (kind_qual k)
  other_cell k m is other = claim_keeps h3 f.entry (name_row name) (kind_qual kind) (kind_bytes widths kind id) (name_row m) (kind_qual k) forwarded.0 other ∙ name_cell k m is

  counter_cell : (k : Kind) → value_at (store_after h4) counter_row (kind_qual k) ≡ value_at (store_after h2) counter_row (kind_qual k)
  counter_cell k =
      claim_keeps h3 f.entry (name_row name) (kind_qual kind) (kind_bytes widths kind id) counter_row (kind_qual k) forwarded.0 (rows_differ counter_row (name_row name) _ _ (λ e. no_counter_row name is_name (sym e)))
      ∙ claim_keeps h2 n.entry (id_row widths kind id) (kind_qual kind) name counter_row (kind_qual k) reversed.0 (rows_differ counter_row (id_row widths kind id) _ _ (tables_differ counter_row (id_row widths kind id) (λ e. Names_Ids (sym e))))

  counter_is : (k : Kind) → counter_of (store_after h4) k ≡ counter_of (store_after h2) k
  counter_is k = ap (λ o. option_map_or (from_be_bytes w64) o 0) (counter_cell k)

  pub unknown_before : value_at (store_after h) (name_row name) (kind_qual kind) ≡ None
  unknown_before = looked h r kind name None lawful.0.0.0.2 look

  -- nobody claimed it in between
  pub not_held : (value : List ℕ) → reply ≡ Held value → ⊥
  not_held value is =
      let legal : ClaimReply (Held value) ≡ ClaimReply (claim_reply (value_at (store_after h3) (name_row name) (kind_qual kind))) =
      ap ClaimReply (sym is) ∙ sym forwarded.1 ∙ lawful.2 ∙ ap (reply_of (store_after h3) (len h3 + 1)) forwarded.0 in
      none_some (sym (name_cell kind name is_name ∙ unknown_before) ∙ held_there (value_at (store_after h3) (name_row name) (kind_qual kind)) value legal)
    where
      none_some : {v : List ℕ} → None ≡ Some v → ⊥
      none_some e = cc

  b_is : b.entry ≡ given b.entry.caller kind id
  b_is = λ i. record { caller = b.entry.caller; step = bumped.0 i; reply = bumped.1 i }

  f_is : reply ≡ Done → f.entry ≡ claimed f.entry.caller (name_row name) (kind_qual kind) (kind_bytes widths kind id)
  f_is done = λ i. record { caller = f.entry.caller; step = forwarded.0 i; reply = (forwarded.1 ∙ ap ClaimReply done) i }

  pub id_is : id ≡ length (list_of names kind) + 1
  id_is =
      let c = given_counts h1 b.entry.caller kind id (subst (λ e. IsLawful (Then h1 e)) b_is lawful.0.0) in
      c.above ∙ ap (λ s. counter_of s kind + 1) same1 ∙ ap (λ k. k + 1) (numbered.counts kind)

  counter_now : counter_of (store_after h2) kind ≡ id
  counter_now =
      let c = given_counts h1 b.entry.caller kind id (subst (λ e. IsLawful (Then h1 e)) b_is lawful.0.0) in
      ap (λ e. counter_of (store_after (Then h1 e)) kind) b_is ∙ c.now

  counter_other : (k : Kind) → kind ≢ k → counter_of (store_after h2) k ≡ counter_of (store_after h) k
  counter_other k d =
      ap (λ o. option_map_or (from_be_bytes w64) o 0)
      (bump_keeps h1 b.entry kind counter_row (kind_qual k) bumped.0 (quals_differ counter_row counter_row (kind_qual k) (kind_qual kind) (λ e. d (sym (same_kind k kind e)))) ∙ ap (λ s. value_at s counter_row (kind_qual k)) same1)

  forward_cell : reply ≡ Done → value_at (store_after h4) (name_row name) (kind_qual kind) ≡ Some (kind_bytes widths kind id)
  forward_cell done =
      let legal : ClaimReply Done ≡ reply_of (store_after h3) (len h3 + 1) (Claim (name_row name) (kind_qual kind) (kind_bytes widths kind id)) =
      ap ClaimReply (sym done) ∙ sym forwarded.1 ∙ lawful.2 ∙ ap (reply_of (store_after h3) (len h3 + 1)) forwarded.0 in
      ap (λ e. value_at (store_after (Then h3 e)) (name_row name) (kind_qual kind)) (f_is done) ∙ claim_wrote h3 f.entry.caller (name_row name) (kind_qual kind) (kind_bytes widths kind id) legal

  pub fresh : id_in (list_of names kind) name ≡ None
  fresh = sym (numbered.ids kind name is_name) ∙ ap (option_and_then id_number) unknown_before

  counts_grown : (k : Kind) → counter_of (store_after h4) k ≡ length (list_of (grown names kind name) k)
  counts_grown k = at (kinds kind k)
    where
      at : (kind ≡ k) ⊎ (kind ≢ k) → counter_of (store_after h4) k ≡ length (list_of (grown names kind name) k)
      at (inl same) =
          subst (λ (x : Kind). counter_of (store_after h4) x ≡ length (list_of (grown names kind name) x)) same
          (counter_is kind ∙ counter_now ∙ id_is ∙ sym (ap length (list_here names kind (list_of names kind ++ name ∷ [])) ∙ length-append (list_of names kind) (name ∷ [])))
      at (inr other) = counter_is k ∙ counter_other k other ∙ numbered.counts k ∙ ap length (sym (list_other names kind k (list_of names kind ++ name ∷ []) other))

  ids_here : IsKindId widths kind id → reply ≡ Done → (m : List ℕ) → IsName m → (same : Bool) → is_same name m ≡ same → id_of h4 kind m ≡ option_or (id_in (list_of names kind) m) (cond same (Some (length (list_of names kind) + 1)) None)
  ids_here is_id done m is true same =
      let e : name ≡ m = same_bytes name m same in
      subst (λ x. id_of h4 kind x ≡ option_or (id_in (list_of names kind) x) (Some (length (list_of names kind) + 1))) e
      (ap (option_and_then id_number) (forward_cell done) ∙ id_read_back widths kind id is_id.1 ∙ ap Some id_is ∙ sym (ap (λ o. option_or o (Some (length (list_of names kind) + 1))) fresh))
  ids_here is_id done m is false other =
      let d : name_row m ≢ name_row name = λ e. true≢false (sym (nat_list_eq_equiv.refl name) ∙ ap (λ (x : Row). is_same name x.bytes) (sym e) ∙ other) in
      ap (option_and_then id_number) (other_cell kind m is (rows_differ (name_row m) (name_row name) _ _ d)) ∙ numbered.ids kind m is ∙ or_none (id_in (list_of names kind) m)
    where
      or_none : (o : Option ℕ) → o ≡ option_or o None
      or_none None = refl
      or_none (Some v) = refl

  ids_grown : IsKindId widths kind id → reply ≡ Done → HasIds (grown names kind name) h4
  ids_grown is_id done k m is = at (kinds kind k)
    where
      at : (kind ≡ k) ⊎ (kind ≢ k) → id_of h4 k m ≡ id_in (list_of (grown names kind name) k) m
      at (inl same) =
          subst (λ (x : Kind). id_of h4 x m ≡ id_in (list_of (grown names kind name) x) m) same
          (ids_here is_id done m is (is_same name m) refl ∙ sym (ap (λ list. id_in list m) (list_here names kind (list_of names kind ++ name ∷ [])) ∙ id_in-append (list_of names kind) name m))
      at (inr other) =
          ap (option_and_then id_number) (other_cell k m is (quals_differ (name_row m) (name_row name) (kind_qual k) (kind_qual kind) (λ e. other (sym (same_kind k kind e)))))
          ∙ numbered.ids k m is ∙ ap (λ list. id_in list m) (sym (list_other names kind k (list_of names kind ++ name ∷ []) other))

  pub numbered_grown : IsKindId widths kind id → reply ≡ Done → IsNumbered (grown names kind name) h4
  numbered_grown is_id done = record { counts = counts_grown; ids = ids_grown is_id done }
