-- What a look for the next row makes of the names that were gathered.
use Rattle.std.proofs.Common.{◌≡◌, ◌⊎◌, inl, inr, ℕ, ◌-◌, ◌≤◌, ◌<◌, Bool, true, false, List, [], ◌∷◌, ◌++◌, length, refl, sym, ap, subst, ◌∙◌, arith, length-append, Less, Equal, Greater}
use Rattle.std.specs.Prelude.{Result, Ok, Err, Option, Some, None, Contains, option_and_then, not, ◌&&◌}
use Rattle.std.specs.declared.cmp.Ordering.{Ordering}
use Rattle.std.specs.Ordering.{is_lt, nat_cmp, eq_by_cmp, ordering_reverse}
use Rattle.std.proofs.lemmas.Cmp.{nat_list_cmp_total}
use Rattle.std.proofs.lemmas.Map.Lookups.{exact_bytes}
use Rattle.std.proofs.lemmas.List.Elements.{All-push, All-weaker, Contains-push}
use Rattle.std.proofs.lemmas.List.Quantifiers.{all_pairs_push}
use Rattle.tsd_base.specs.declared.kinds.Kind.{Kind}
use Rattle.tsd_base.specs.Alphabet.{IsName}
use Rattle.row_key.specs.declared.tables.Table.{Table}
use Rattle.row_key.specs.declared.tables.Table.TheVariants.{Ids, Names, Points}
use Rattle.cell_model.specs.declared.row.Row.{Row}
use Rattle.cell_model.specs.declared.row.Found.{Found}
use Rattle.cell_model.specs.declared.events.Step.TheVariants.{NextRow}
use Rattle.cell_model.specs.declared.events.Reply.TheVariants.{Next}
use Rattle.list_lemmas.specs.BytesOrder.{bytes_cmp}
use Rattle.cell_model.specs.PlaceOrder.{row_cmp, table_number}
use Rattle.cell_model.specs.Store.{Store, value_at, value_among, is_between, next_row_of}
use Rattle.cell_model.specs.Machine.{kind_qual}
use Rattle.cell_model.specs.History.{History, first, store_after}
use Rattle.cell_model.specs.IdRows.{name_row, id_number}
use Rattle.cell_model.specs.Lawful.{IsLawful}
use Rattle.cell_model.specs.declared.events.Placed.{Placed}
use Rattle.cell_model.specs.declared.answers.RowsFault.{RowsFault}
use Rattle.cell_model.specs.Seen.{Seen, Fits, Waited, Stepped, IsPossible, KnowsCell}
use Rattle.cell_model.specs.Seen.Shows.{by_next}
use Rattle.uid_table.specs.Shown.{HasShown}
use Rattle.uid_table.specs.Suggest.{IsResolved, HasPrefix, NamesRise, AreBelow, Covers, Gathers, AddsShown, Takes, TurnsTo, AllLooks}
use Rattle.uid_table.specs.IdSteps.{MadeSo}
use Rattle.uid_table.proofs.Making.{nothing_made}
use Rattle.cell_laws.proofs.CallerLemmas.{wait_made, step_made, made_joined, first_lawful, each_entry, keeps_id, sound_after, step_extends}
use Rattle.list_lemmas.proofs.ListMembers.{here as at_front, there, split, not_in}
use Rattle.cell_model.proofs.CallerLemmas.{value_among-cells_of}
use Rattle.uid_table.proofs.ByteOrder.{three, not_both, less_or_not, past_prefix, behind_is_above, up_to_behind, below_trans, at_least, not_below}
use Rattle.uid_table.proofs.NextRows.{found_row, no_row}
use Rattle.uid_table.proofs.Shows.{shown_kept, shown_cell}

-- the store at a step
abbrev store_at : History → Seen → Store
store_at h t = store_after (first (t.length - 1) h)

same_found : (a b : Option Found) → Next a ≡ Next b → a ≡ b
same_found a b e = cc

reply_is : (s t : Seen) (from to : List ℕ) (found : Option Found) (h : History) → Stepped s (NextRow Ids from to) (Next found) t → IsLawful h → Fits t h → found ≡ next_row_of (store_at h t) Ids from to
reply_is s t from to found h step l f = same_found _ _ (each_entry h t.length _ l (f.seen _ _ step.stepped)).reply

value_of : (o : Option (List ℕ)) (id : ℕ) → option_and_then id_number o ≡ Some id → (v : List ℕ) × (o ≡ Some v)
value_of None id e = cc
value_of (Some v) id e = (v, refl)

-- a name that was resolved at the start stands at the step
stands_at : (start s t : Seen) (from to : List ℕ) (found : Option Found) (h : History) (kind : Kind) (name : List ℕ) → start.length ≤ s.length → Stepped s (NextRow Ids from to) (Next found) t → IsLawful h
    → IsResolved kind (first start.length h) name → (v : List ℕ) × (value_at (store_at h t) (name_row name) (kind_qual kind) ≡ Some v)
stands_at start s t from to found h kind name le step l r =
    let kept = keeps_id h start.length (t.length - 1) kind name r.1.0 l r.0 (let lt = step.length in omega (arith, le, lt)) r.1.1 in
    value_of (value_at (store_at h t) (name_row name) (kind_qual kind)) r.1.0 kept

in_between : (from to n : List ℕ) → is_lt (bytes_cmp n from) ≡ false → bytes_cmp n to ≡ Less → is_between Ids from to (name_row n) ≡ true
in_between from to n on lt = ap (λ b. not b && is_lt (bytes_cmp n to)) on ∙ ap is_lt lt

-- where a found row lies
pub record Lies (from to : List ℕ) (row : Row) : Type 0 where
  pub row_is : row ≡ name_row row.bytes
  pub on : is_lt (bytes_cmp row.bytes from) ≡ false
  pub before : bytes_cmp row.bytes to ≡ Less

lies : (from to : List ℕ) (row : Row) → is_between Ids from to row ≡ true → Lies from to row
lies from to row e = at row.table refl e
  where
    of_ids : row.table ≡ Ids → (a b : Bool) → is_lt (bytes_cmp row.bytes from) ≡ a → is_lt (bytes_cmp row.bytes to) ≡ b → (not a && b) ≡ true → Lies from to row
    of_ids t false true x y z = record { row_is = ap (λ (k : Table). record { table = k; bytes = row.bytes }) t; on = x; before = less _ y }
      where
        less : (o : Ordering) → is_lt o ≡ true → o ≡ Less
        less Less p = refl
        less Equal p = absurd cc
        less Greater p = absurd cc
    of_ids t true b x y z = cc
    of_ids t false false x y z = cc

    at : (k : Table) → row.table ≡ k → (eq_by_cmp nat_cmp 0 (table_number k) && not (is_lt (bytes_cmp row.bytes from)) && is_lt (bytes_cmp row.bytes to)) ≡ true → Lies from to row
    at Ids t z = of_ids t _ _ refl refl z
    at Names t z = cc
    at Points t z = cc

-- the row that was found
pub record Turned (from to : List ℕ) (found : Found) : Type 0 where
  pub lies : Lies from to found.row
  pub is_name : IsName found.row.bytes

zero_row : List ℕ
zero_row = 0 ∷ []

pub turned : (s t : Seen) (from to : List ℕ) (found : Found) → Stepped s (NextRow Ids from to) (Next (Some found)) t → IsPossible t → bytes_cmp (0 ∷ []) from ≡ Less → Turned from to found
turned s t from to found step p some =
    let h = p.history in
    let row = found_row (store_at h t) from to found (sym (reply_is s t from to (Some found) h step p.lawful p.fits)) in
    let place = lies from to found.row row.between in
    let sound = sound_after (first (t.length - 1) h) (first_lawful h (t.length - 1) p.lawful) in
    record {
      lies = place;
      is_name = (sound.forward found.row.bytes row.qual row.value (λ z. not_both _ some (subst (λ (b : List ℕ). is_lt (bytes_cmp b from) ≡ false) z place.on)) (subst (λ (r : Row). value_at (store_at h t) r row.qual ≡ Some row.value) place.row_is row.stands)).is_name;
    }

-- no row was found: all names before the end are covered
pub covers_none : (start s t : Seen) (kind : Kind) (prefix from to : List ℕ) (names : List (List ℕ)) → start.length ≤ s.length → Stepped s (NextRow Ids from to) (Next None) t → Covers start kind prefix from names s → Covers start kind prefix to names t
covers_none start s t kind prefix from to names le step covers h l f name r pre lt = elim (less_or_not (bytes_cmp name from)) [
  | inl below ↦ covers h l ((step_extends s t _ _ step).fits h f) name r pre below
  | inr on ↦
      let v = stands_at start s t from to None h kind name le step l r in
      absurd (no_row (store_at h t) from to (sym (reply_is s t from to None h step l f)) (name_row name) (kind_qual kind) v.0 v.1 (in_between from to name on lt))
]

below_row : (n : List ℕ) (row : Row) → row ≡ name_row row.bytes → bytes_cmp n row.bytes ≡ Less → row_cmp (name_row n) row ≡ Less
below_row n row is lt = subst (λ (r : Row). row_cmp (name_row n) r ≡ Less) (sym is) lt

-- none before the row that was found
none_before : (start s t : Seen) (kind : Kind) (from to : List ℕ) (found : Found) (h : History) (name : List ℕ) → start.length ≤ s.length → Stepped s (NextRow Ids from to) (Next (Some found)) t → IsLawful h → Fits t h
    → IsResolved kind (first start.length h) name → is_lt (bytes_cmp name from) ≡ false → bytes_cmp name found.row.bytes ≡ Less → ⊥
none_before start s t kind from to found h name le step l f r on lt =
    let row = found_row (store_at h t) from to found (sym (reply_is s t from to (Some found) h step l f)) in
    let place = lies from to found.row row.between in
    let v = stands_at start s t from to (Some found) h kind name le step l r in
    row.least (name_row name) (kind_qual kind) v.0 v.1 (in_between from to name on (below_trans name found.row.bytes to lt place.before)) (below_row name found.row place.row_is lt)

-- no name with the prefix is from a row on that is past it
beyond : (prefix b name : List ℕ) → is_lt (bytes_cmp b prefix) ≡ false → (HasPrefix prefix b → ⊥) → HasPrefix prefix name → is_lt (bytes_cmp name b) ≡ false → ⊥
beyond prefix b name above lacks pre on =
    three (bytes_cmp b name)
    (λ lt. past_prefix prefix b pre.0 (λ e. not_both _ e above) lacks (subst (λ n. bytes_cmp b n ≡ Less) pre.1 lt))
    (λ eq. lacks (pre.0, exact_bytes b name eq ∙ pre.1))
    (λ gt. not_both _ (nat_list_cmp_total.antisymm name b ∙ ap ordering_reverse gt) on)

-- a row without the prefix was found: no name with it is left before the end
pub covers_past : (start s t : Seen) (kind : Kind) (prefix from to : List ℕ) (found : Found) (names : List (List ℕ)) → start.length ≤ s.length → Stepped s (NextRow Ids from to) (Next (Some found)) t
    → is_lt (bytes_cmp from prefix) ≡ false → Lies from to found.row → (HasPrefix prefix found.row.bytes → ⊥) → Covers start kind prefix from names s → Covers start kind prefix to names t
covers_past start s t kind prefix from to found names le step above place lacks covers h l f name r pre lt = elim (less_or_not (bytes_cmp name from)) [
  | inl below ↦ covers h l ((step_extends s t _ _ step).fits h f) name r pre below
  | inr on ↦ elim (less_or_not (bytes_cmp name found.row.bytes)) [
    | inl before ↦ absurd (none_before start s t kind from to found h name le step l f r on before)
    | inr from_on ↦
        absurd (beyond prefix found.row.bytes name (not_below found.row.bytes from prefix place.on above) lacks pre from_on)
  ]
]

contains_more : (xs : List (List ℕ)) (n b : List ℕ) → Contains xs n → Contains (xs ++ b ∷ []) n
contains_more [] n b c = absurd (not_in n c)
contains_more (x ∷ xs) n b c = elim (split x n xs c) [
  | inl same ↦ subst (Contains (x ∷ (xs ++ b ∷ []))) same (at_front x (xs ++ b ∷ []))
  | inr later ↦ there x n (xs ++ b ∷ []) (contains_more xs n b later)
]

nothing : (v : List ℕ) → None ≡ Some v → ⊥
nothing v e = cc

-- a row with the prefix was found: all names up to it are covered
pub covers_found : (start s t : Seen) (kind : Kind) (prefix from to : List ℕ) (found : Found) (shown : Option (List ℕ)) (names more : List (List ℕ)) → start.length ≤ s.length → Stepped s (NextRow Ids from to) (Next (Some found)) t
    → Lies from to found.row → value_among found.cells (kind_qual kind) ≡ shown → AddsShown shown found.row.bytes names more → Covers start kind prefix from names s → Covers start kind prefix (found.row.bytes ++ 0 ∷ []) more t
covers_found start s t kind prefix from to found shown names more le step place shows adds covers h l f name r pre lt =
    elim (up_to_behind name found.row.bytes lt) [
      | inl before ↦ elim (less_or_not (bytes_cmp name from)) [
        | inl below ↦ kept shown adds (covers h l ((step_extends s t _ _ step).fits h f) name r pre below)
        | inr on ↦ absurd (none_before start s t kind from to found h name le step l f r on before)
      ]
      | inr is ↦ taken shown shows adds is
    ]
  where
    kept : (o : Option (List ℕ)) → AddsShown o found.row.bytes names more → Contains names name → Contains more name
    kept None same c = subst (λ xs. Contains xs name) (sym same) c
    kept (Some v) same c = subst (λ xs. Contains xs name) (sym same) (contains_more names name found.row.bytes c)

    taken : (o : Option (List ℕ)) → value_among found.cells (kind_qual kind) ≡ o → AddsShown o found.row.bytes names more → name ≡ found.row.bytes → Contains more name
    taken (Some v) e same is = subst (λ xs. Contains xs name) (sym same) (subst (λ n. Contains (names ++ found.row.bytes ∷ []) n) (sym is) (Contains-push names found.row.bytes))
    taken None e same is =
        let row = found_row (store_at h t) from to found (sym (reply_is s t from to (Some found) h step l f)) in
        let v = stands_at start s t from to (Some found) h kind name le step l r in
        let here = subst (λ (w : Row). value_at (store_at h t) w (kind_qual kind) ≡ Some v.0) (ap name_row is ∙ sym place.row_is) v.1 in
        absurd (nothing v.0 (sym e ∙ ap (λ cells. value_among cells (kind_qual kind)) row.cells ∙ sym (value_among-cells_of (store_at h t) found.row (kind_qual kind)) ∙ here))

-- names below bytes are below what isn't below these
below_on : (n from b : List ℕ) → bytes_cmp n from ≡ Less → is_lt (bytes_cmp b from) ≡ false → bytes_cmp n b ≡ Less
below_on n from b lt on = elim (less_or_not (bytes_cmp n b)) [ inl l ↦ l | inr e ↦ absurd (not_both _ (at_least n b from e lt) on) ]

pub all_below : (names : List (List ℕ)) (from b : List ℕ) → AreBelow names from → is_lt (bytes_cmp b from) ≡ false → AreBelow names b
all_below names from b all on = All-weaker (λ n. bytes_cmp n from ≡ Less) (λ n. bytes_cmp n b ≡ Less) (λ n lt. below_on n from b lt on) names all

abbrev EachShown : Kind → List ℕ → List (List ℕ) → Seen → Type 0
EachShown kind prefix names s = (name : List ℕ) → Contains names name → HasPrefix prefix name × ((id : ℕ) × HasShown s kind name id)

each_kept : (s t : Seen) (from to : List ℕ) (found : Option Found) (kind : Kind) (prefix : List ℕ) (names : List (List ℕ)) → Stepped s (NextRow Ids from to) (Next found) t → EachShown kind prefix names s → EachShown kind prefix names t
each_kept s t from to found kind prefix names step each n c = let w = each n c in (w.0, (w.1.0, shown_kept s t kind n w.1.0 (step_extends s t _ _ step) w.1.1))

-- the range holds no further name with the prefix
pub gathers_end : (start s t : Seen) (kind : Kind) (prefix : List ℕ) (max : ℕ) (from to : List ℕ) (found : Option Found) (names : List (List ℕ)) → Stepped s (NextRow Ids from to) (Next found) t → is_lt (bytes_cmp to from) ≡ false
    → Gathers start kind prefix max from names s → Covers start kind prefix to names t → Gathers start kind prefix max to names t
gathers_end start s t kind prefix max from to found names step on g covers = record {
  since = let a = g.since in let b = step.length in omega (arith, a, b);
  rising = g.rising;
  most = g.most;
  below = all_below names from to g.below on;
  each = each_kept s t from to found kind prefix names step g.each;
  covers = covers;
}

-- a row with the prefix was found
pub gathers_more : (start s t : Seen) (kind : Kind) (prefix : List ℕ) (max : ℕ) (from to : List ℕ) (found : Found) (shown : Option (List ℕ)) (names more : List (List ℕ)) → Stepped s (NextRow Ids from to) (Next (Some found)) t → IsPossible t → Turned from to found
    → HasPrefix prefix found.row.bytes → value_among found.cells (kind_qual kind) ≡ shown → AddsShown shown found.row.bytes names more → length names < max → Gathers start kind prefix max from names s
    → Gathers start kind prefix max (found.row.bytes ++ 0 ∷ []) more t
gathers_more start s t kind prefix max from to found shown names more step p turn pre shows adds room g = record {
  since = let a = g.since in let b = step.length in omega (arith, a, b);
  rising = rising shown adds;
  most = most shown adds;
  below = below shown adds;
  each = each shown shows adds;
  covers = covers_found start s t kind prefix from to found shown names more g.since step turn.lies shows adds g.covers;
}
  where
    b : List ℕ
    b = found.row.bytes

    under : AreBelow names b
    under = all_below names from b g.below turn.lies.on

    rising : (o : Option (List ℕ)) → AddsShown o b names more → NamesRise more
    rising None is = subst NamesRise (sym is) g.rising
    rising (Some v) is = subst NamesRise (sym is) (all_pairs_push (λ x y. bytes_cmp x y ≡ Less) names b g.rising under)

    most : (o : Option (List ℕ)) → AddsShown o b names more → length more ≤ max
    most None is = subst (λ (xs : List (List ℕ)). length xs ≤ max) (sym is) g.most
    most (Some v) is = subst (λ (xs : List (List ℕ)). length xs ≤ max) (sym is) (let n = length-append names (b ∷ []) in omega (arith, n, room))

    behind_b : AreBelow names (b ++ 0 ∷ [])
    behind_b = All-weaker (λ n. bytes_cmp n b ≡ Less) (λ n. bytes_cmp n (b ++ 0 ∷ []) ≡ Less) (λ n lt. below_trans n b (b ++ 0 ∷ []) lt (behind_is_above b)) names under

    below : (o : Option (List ℕ)) → AddsShown o b names more → AreBelow more (b ++ 0 ∷ [])
    below None is = subst (λ xs. AreBelow xs (b ++ 0 ∷ [])) (sym is) behind_b
    below (Some v) is = subst (λ xs. AreBelow xs (b ++ 0 ∷ [])) (sym is) (All-push (λ n. bytes_cmp n (b ++ 0 ∷ []) ≡ Less) names b behind_b (behind_is_above b))

    before : EachShown kind prefix names t
    before = each_kept s t from to (Some found) kind prefix names step g.each

    taken : (v : List ℕ) → value_among found.cells (kind_qual kind) ≡ Some v → HasPrefix prefix b × ((id : ℕ) × HasShown t kind b id)
    taken v e =
        let known : KnowsCell t found.row (kind_qual kind) v = (t.length, _, step.stepped, by_next e) in
        let shown_id = shown_cell t kind b v p turn.is_name (subst (λ (r : Row). KnowsCell t r (kind_qual kind) v) turn.lies.row_is known) in
        (pre, (shown_id.id, shown_id.shown))

    with_last : (v : List ℕ) → value_among found.cells (kind_qual kind) ≡ Some v → (xs : List (List ℕ)) → EachShown kind prefix xs t → EachShown kind prefix (xs ++ b ∷ []) t
    with_last v e xs all n c = last_or xs n c (all n)
      where
        last_or : (ys : List (List ℕ)) (m : List ℕ) → Contains (ys ++ b ∷ []) m → (Contains ys m → HasPrefix prefix m × ((id : ℕ) × HasShown t kind m id)) → HasPrefix prefix m × ((id : ℕ) × HasShown t kind m id)
        last_or [] m d go = elim (split b m [] d) [
          | inl same ↦ subst (λ x. HasPrefix prefix x × ((id : ℕ) × HasShown t kind x id)) same (taken v e)
          | inr none ↦ absurd (not_in m none)
        ]
        last_or (y ∷ ys) m d go = elim (split y m (ys ++ b ∷ []) d) [
          | inl same ↦ go (subst (Contains (y ∷ ys)) same (at_front y ys))
          | inr later ↦ last_or ys m later (λ x. go (there y m ys x))
        ]

    each : (o : Option (List ℕ)) → value_among found.cells (kind_qual kind) ≡ o → AddsShown o b names more → EachShown kind prefix more t
    each None e is = subst (λ xs. EachShown kind prefix xs t) (sym is) before
    each (Some v) e is = subst (λ xs. EachShown kind prefix xs t) (sym is) (with_last v e names before)

-- what one look makes of what was gathered
pub turn_none : (s t : Seen) (kind : Kind) (prefix from to : List ℕ) (high : ℕ) (found : Option Found) (names : List (List ℕ)) → to ≡ high ∷ [] → found ≡ None → Stepped s (NextRow Ids from to) (Next found) t → is_lt (bytes_cmp (high ∷ []) from) ≡ false
    → (start : Seen) (max : ℕ) → Gathers start kind prefix max from names s → Gathers start kind prefix max (high ∷ []) names t
turn_none s t kind prefix from to high found names to_is none step at start max g =
    let one : Stepped s (NextRow Ids from (high ∷ [])) (Next None) t = subst (λ (x : List ℕ × Option Found). Stepped s (NextRow Ids from x.0) (Next x.1) t) (λ i. (to_is i, none i)) step in
    gathers_end start s t kind prefix max from (high ∷ []) None names one at g (covers_none start s t kind prefix from (high ∷ []) names g.since one g.covers)

pub restep : (s t : Seen) (from to : List ℕ) (high : ℕ) (o : Option Found) (found : Found) → to ≡ high ∷ [] → o ≡ Some found → Stepped s (NextRow Ids from to) (Next o) t → Stepped s (NextRow Ids from (high ∷ [])) (Next (Some found)) t
restep s t from to high o found to_is is step = subst (λ (x : List ℕ × Option Found). Stepped s (NextRow Ids from x.0) (Next x.1) t) (λ i. (to_is i, is i)) step

pub turn_found : (s t : Seen) (kind : Kind) (prefix from : List ℕ) (high : ℕ) (found : Found) (names more : List (List ℕ)) (r : Result (Option (List ℕ)) RowsFault) → Stepped s (NextRow Ids from (high ∷ [])) (Next (Some found)) t → IsPossible t
    → bytes_cmp (0 ∷ []) from ≡ Less → is_lt (bytes_cmp (high ∷ []) from) ≡ false → is_lt (bytes_cmp from prefix) ≡ false → Takes kind prefix found names r more → TurnsTo kind prefix from high names s r more t
turn_found s t kind prefix from high found names more (Ok None) step p some at above (same, lacks) = λ start max g.
    let turn = turned s t from (high ∷ []) found step p some in
    subst (λ (xs : List (List ℕ)). Gathers start kind prefix max (high ∷ []) xs t) (sym same)
    (gathers_end start s t kind prefix max from (high ∷ []) (Some found) names step at g (covers_past start s t kind prefix from (high ∷ []) found names g.since step above turn.lies lacks g.covers))
turn_found s t kind prefix from high found names more (Ok (Some next)) step p some at above (pre, next_is, (shown, shows, adds)) =
    let turn = turned s t from (high ∷ []) found step p some in (
      (found.row.bytes, next_is, turn.is_name, turn.lies.on, turn.lies.before),
      λ start max room g.
          subst (λ (n : List ℕ). Gathers start kind prefix max n more t) (sym next_is) (gathers_more start s t kind prefix max from (high ∷ []) found shown names more step p turn pre shows adds room g),
    )
turn_found s t kind prefix from high found names more (Err e) step p some at above takes = tt

in_either : (xs ys : List Placed) (y : Placed) → Contains (xs ++ ys) y → Contains xs y ⊎ Contains ys y
in_either [] ys y c = inr c
in_either (x ∷ xs) ys y c = elim (split x y (xs ++ ys) c) [
  | inl same ↦ inl (subst (Contains (x ∷ xs)) same (at_front x xs))
  | inr later ↦ elim (in_either xs ys y later) [ inl l ↦ inl (there x y xs l) | inr r ↦ inr r ]
]

-- the entries of a look
pub one_look : (s t : Seen) (from to : List ℕ) (found : Option Found) → Stepped s (NextRow Ids from to) (Next found) t → IsPossible t → MadeSo s AllLooks t
one_look s t from to found step p = (
  _,
  step_made s t _ _ step p,
  λ d c. elim (split _ d [] c) [
    | inl same ↦ (from, to, found, (ap (λ (x : Placed). x.entry.step) (sym same), ap (λ (x : Placed). x.entry.reply) (sym same)))
    | inr none ↦ absurd (not_in d none)
  ],
)

pub no_look : (s t : Seen) → Waited s t → (IsPossible s → IsPossible t) → MadeSo s AllLooks t
no_look s t w lives = ([], wait_made s t w lives, λ d c. absurd (not_in d c))

pub looks_joined : (a b c : Seen) → MadeSo a AllLooks b → MadeSo b AllLooks c → MadeSo a AllLooks c
looks_joined a b c (xs, m, p) (ys, n, q) = (xs ++ ys, made_joined a b c xs ys m n, λ d e. elim (in_either xs ys d e) [ inl l ↦ p d l | inr r ↦ q d r ])

pub looks_none : (s : Seen) → MadeSo s AllLooks s
looks_none s = ([], nothing_made s, λ d c. absurd (not_in d c))
