-- The cells of three counters.
use Rattle.std.proofs.Common.{◌≡◌, ◌≢◌, ◌⊎◌, inl, inr, ℕ, ◌≤◌, ◌<◌, ◌^◌, Bool, true, false, cond, T, List, [], ◌∷◌, ◌++◌, map, refl, sym, ap, subst, ◌∙◌, arith, nat_eq}
use Rattle.std.specs.Prelude.{Option, None, Some, option_map}
use Rattle.std.specs.Option.{option_map_or}
use Rattle.std.specs.Int.{w64, to_be_bytes, from_be_bytes}
use Rattle.std.proofs.lemmas.Nat.{from_be_bytes-to_be_bytes_8}
use Rattle.std.proofs.lemmas.Bool.Decides.{nat_tests}
use Rattle.std.specs.Ordering.{eq_by_cmp}
use Rattle.std.specs.Cmp.Lexicographic.{nat_list_cmp_total}
use Rattle.std.specs.FinMap.{find, is_sorted, entries, empty, insert, get, get-empty, get-insert, get-from_entries, same_map}
use Rattle.list_lemmas.proofs.ListCuts.{joined, map_join}
use Rattle.tsd_base.specs.declared.kinds.Kind.{Kind}
use Rattle.tsd_base.specs.declared.kinds.Kind.TheVariants.{Metric, TagKey, TagValue}
use Rattle.qual_codec.specs.declared.cells.Cell.{Cell}
use Rattle.cell_model.specs.KindWidths.{Widths, most_ids}
use Rattle.cell_model.proofs.CallerLemmas.{greatest_fits}
use Rattle.cell_model.specs.declared.row.ListLine.{ListLine}
use Rattle.cell_model.specs.declared.events.Place.{Place}
use Rattle.cell_model.specs.declared.events.Content.{Content}
use Rattle.cell_model.specs.Counts.{line_of}
use Rattle.map_body.specs.Whole.{placed}
use Rattle.cell_model.specs.Machine.{kind_qual, counter_row}
use Rattle.cell_model.specs.Sound.{IsCounter}
use Rattle.cell_model.specs.Rising.{IsAboveCells}
use Rattle.list_lemmas.specs.BytesOrder.{bytes_cmp}
use Rattle.packed_cells.specs.Keyed.{CellMap, cell_from, cells_in, stamped, stamped_over}
use Rattle.map_body.specs.declared.counters.Counter.{Counter}
use Rattle.map_body.specs.Counting.{shown, counter_cells, number_in, AllCounters}
use Rattle.map_body.proofs.Maps.{exact, tied, untied, same_or_not, no_some, entries_sorted_list}

-- what a counter shows
abbrev pub value_of : Counter → Option (List ℕ × ℕ)
value_of c = cond (nat_eq c.number 0) None (Some (to_be_bytes w64 c.number, c.version))

abbrev pub pick : Kind → Counter → Counter → Counter → Counter
pick Metric m k v = m
pick TagKey m k v = k
pick TagValue m k v = v

-- each kind's qualifier, or another one
by_kind : (P : List ℕ → Type 0) → ((kind : Kind) → P (kind_qual kind)) → ((q : List ℕ) → ((kind : Kind) → q ≢ kind_qual kind) → P q) → (q : List ℕ) → P q
by_kind P at other q = one (same_or_not q (kind_qual Metric)) (same_or_not q (kind_qual TagKey)) (same_or_not q (kind_qual TagValue))
  where
    apart : q ≢ kind_qual Metric → q ≢ kind_qual TagKey → q ≢ kind_qual TagValue → (kind : Kind) → q ≢ kind_qual kind
    apart a b c Metric = a
    apart a b c TagKey = b
    apart a b c TagValue = c

    one : (q ≡ kind_qual Metric) ⊎ (q ≢ kind_qual Metric) → (q ≡ kind_qual TagKey) ⊎ (q ≢ kind_qual TagKey) → (q ≡ kind_qual TagValue) ⊎ (q ≢ kind_qual TagValue) → P q
    one (inl e) b c = subst P (sym e) (at Metric)
    one (inr a) (inl e) c = subst P (sym e) (at TagKey)
    one (inr a) (inr b) (inl e) = subst P (sym e) (at TagValue)
    one (inr a) (inr b) (inr c) = other q (apart a b c)

-- the cell of a kind
find_kind : (kind : Kind) (a b c : Bool) (x y z : List ℕ × ℕ)
    → find bytes_cmp (kind_qual kind) (cond a [] ((kind_qual Metric, x) ∷ []) ++ (cond b [] ((kind_qual TagKey, y) ∷ []) ++ cond c [] ((kind_qual TagValue, z) ∷ [])))
    ≡ elim kind as (λ _. Option (List ℕ × ℕ)) [ Metric ↦ cond a None (Some x) | TagKey ↦ cond b None (Some y) | TagValue ↦ cond c None (Some z) ]
find_kind Metric true true true x y z = refl
find_kind Metric true true false x y z = refl
find_kind Metric true false true x y z = refl
find_kind Metric true false false x y z = refl
find_kind Metric false b c x y z = refl
find_kind TagKey true true true x y z = refl
find_kind TagKey true true false x y z = refl
find_kind TagKey true false c x y z = refl
find_kind TagKey false true true x y z = refl
find_kind TagKey false true false x y z = refl
find_kind TagKey false false c x y z = refl
find_kind TagValue true true true x y z = refl
find_kind TagValue true true false x y z = refl
find_kind TagValue true false true x y z = refl
find_kind TagValue true false false x y z = refl
find_kind TagValue false true true x y z = refl
find_kind TagValue false true false x y z = refl
find_kind TagValue false false true x y z = refl
find_kind TagValue false false false x y z = refl

picked : (kind : Kind) (m k v : Counter) → elim kind as (λ _. Option (List ℕ × ℕ)) [ Metric ↦ value_of m | TagKey ↦ value_of k | TagValue ↦ value_of v ] ≡ value_of (pick kind m k v)
picked Metric m k v = refl
picked TagKey m k v = refl
picked TagValue m k v = refl

pub get_kind : (kind : Kind) (m k v : Counter) → get (counter_cells m k v) (kind_qual kind) ≡ value_of (pick kind m k v)
get_kind kind m k v =
    get-from_entries nat_list_cmp_total (shown Metric m ++ (shown TagKey k ++ shown TagValue v)) (kind_qual kind)
    ∙ find_kind kind (nat_eq m.number 0) (nat_eq k.number 0) (nat_eq v.number 0) (to_be_bytes w64 m.number, m.version) (to_be_bytes w64 k.number, k.version) (to_be_bytes w64 v.number, v.version)
    ∙ picked kind m k v

-- no other qualifier has a cell
skip : (q : List ℕ) (b : Bool) (k : List ℕ) (x : List ℕ × ℕ) (rest : List (List ℕ × (List ℕ × ℕ))) → q ≢ k → find bytes_cmp q (cond b [] ((k, x) ∷ []) ++ rest) ≡ find bytes_cmp q rest
skip q true k x rest ne = refl
skip q false k x rest ne = ap (λ t. cond t (Some x) (find bytes_cmp q rest)) (untied q k ne)

no_rest : (q : List ℕ) (b : Bool) (k : List ℕ) (x : List ℕ × ℕ) → q ≢ k → find bytes_cmp q (cond b [] ((k, x) ∷ [])) ≡ None
no_rest q true k x ne = refl
no_rest q false k x ne = ap (λ t. cond t (Some x) None) (untied q k ne)

pub get_other : (q : List ℕ) (m k v : Counter) → ((kind : Kind) → q ≢ kind_qual kind) → get (counter_cells m k v) q ≡ None
get_other q m k v ne =
    get-from_entries nat_list_cmp_total (shown Metric m ++ (shown TagKey k ++ shown TagValue v)) q
    ∙ skip q (nat_eq m.number 0) (kind_qual Metric) (to_be_bytes w64 m.number, m.version) (shown TagKey k ++ shown TagValue v) (ne Metric)
    ∙ skip q (nat_eq k.number 0) (kind_qual TagKey) (to_be_bytes w64 k.number, k.version) (shown TagValue v) (ne TagKey)
    ∙ no_rest q (nat_eq v.number 0) (kind_qual TagValue) (to_be_bytes w64 v.number, v.version) (ne TagValue)

-- a counter that is set
kinds_apart : (a b : Kind) → (a ≡ b) ⊎ (eq_by_cmp bytes_cmp (kind_qual a) (kind_qual b) ≡ false)
kinds_apart Metric Metric = inl refl
kinds_apart TagKey TagKey = inl refl
kinds_apart TagValue TagValue = inl refl
kinds_apart Metric TagKey = inr refl
kinds_apart Metric TagValue = inr refl
kinds_apart TagKey Metric = inr refl
kinds_apart TagKey TagValue = inr refl
kinds_apart TagValue Metric = inr refl
kinds_apart TagValue TagKey = inr refl

positive : (n : ℕ) → 1 ≤ n → nat_eq n 0 ≡ false
positive n le = grind (arith, nat_tests, le)

-- by the counter at each kind
pub set_by_kind : (kind : Kind) (m k v n l w : Counter) (x : List ℕ × ℕ) → value_of (pick kind n l w) ≡ Some x → ((other : Kind) → (other ≡ kind → ⊥) → pick other n l w ≡ pick other m k v) → counter_cells n l w ≡ insert (counter_cells m k v) (kind_qual kind) x
set_by_kind kind m k v n l w x here others = same_map nat_list_cmp_total exact _ _ (by_kind (λ q. get (counter_cells n l w) q ≡ get (insert (counter_cells m k v) (kind_qual kind) x) q) each rest)
  where
    each : (other : Kind) → get (counter_cells n l w) (kind_qual other) ≡ get (insert (counter_cells m k v) (kind_qual kind) x) (kind_qual other)
    each other = at (kinds_apart other kind)
      where
        at : (other ≡ kind) ⊎ (eq_by_cmp bytes_cmp (kind_qual other) (kind_qual kind) ≡ false) → get (counter_cells n l w) (kind_qual other) ≡ get (insert (counter_cells m k v) (kind_qual kind) x) (kind_qual other)
        at (inl same) = subst (λ (o : Kind). get (counter_cells n l w) (kind_qual o) ≡ get (insert (counter_cells m k v) (kind_qual kind) x) (kind_qual o)) (sym same)
            (get_kind kind n l w ∙ here ∙ sym (get-insert nat_list_cmp_total (counter_cells m k v) (kind_qual kind) x (kind_qual kind) ∙ ap (λ b. cond b (Some x) (get (counter_cells m k v) (kind_qual kind))) (tied (kind_qual kind))))
        at (inr apart) =
            get_kind other n l w ∙ ap value_of (others other (λ e. let t : true ≡ false = sym (tied (kind_qual kind)) ∙ ap (λ (o : Kind). eq_by_cmp bytes_cmp (kind_qual o) (kind_qual kind)) (sym e) ∙ apart in cc))
            ∙ sym (get_kind other m k v) ∙ sym (get-insert nat_list_cmp_total (counter_cells m k v) (kind_qual kind) x (kind_qual other) ∙ ap (λ b. cond b (Some x) (get (counter_cells m k v) (kind_qual other))) apart)

    rest : (q : List ℕ) → ((o : Kind) → q ≢ kind_qual o) → get (counter_cells n l w) q ≡ get (insert (counter_cells m k v) (kind_qual kind) x) q
    rest q ne = get_other q n l w ne ∙ sym (get-insert nat_list_cmp_total (counter_cells m k v) (kind_qual kind) x q ∙ ap (λ b. cond b (Some x) (get (counter_cells m k v) q)) (untied q (kind_qual kind) (ne kind)) ∙ get_other q m k v ne)

shows : (c : Counter) → 1 ≤ c.number → value_of c ≡ Some (to_be_bytes w64 c.number, c.version)
shows c least = ap (λ b. cond b None (Some (to_be_bytes w64 c.number, c.version))) (positive c.number least)

pub set_metric : (m k v c : Counter) → 1 ≤ c.number → counter_cells c k v ≡ insert (counter_cells m k v) (kind_qual Metric) (to_be_bytes w64 c.number, c.version)
set_metric m k v c least = set_by_kind Metric m k v c k v (to_be_bytes w64 c.number, c.version) (shows c least) others
  where
    others : (other : Kind) → (other ≡ Metric → ⊥) → pick other c k v ≡ pick other m k v
    others Metric ne = absurd (ne refl)
    others TagKey ne = refl
    others TagValue ne = refl

pub set_tag_key : (m k v c : Counter) → 1 ≤ c.number → counter_cells m c v ≡ insert (counter_cells m k v) (kind_qual TagKey) (to_be_bytes w64 c.number, c.version)
set_tag_key m k v c least = set_by_kind TagKey m k v m c v (to_be_bytes w64 c.number, c.version) (shows c least) others
  where
    others : (other : Kind) → (other ≡ TagKey → ⊥) → pick other m c v ≡ pick other m k v
    others Metric ne = refl
    others TagKey ne = absurd (ne refl)
    others TagValue ne = refl

pub set_tag_value : (m k v c : Counter) → 1 ≤ c.number → counter_cells m k c ≡ insert (counter_cells m k v) (kind_qual TagValue) (to_be_bytes w64 c.number, c.version)
set_tag_value m k v c least = set_by_kind TagValue m k v m k c (to_be_bytes w64 c.number, c.version) (shows c least) others
  where
    others : (other : Kind) → (other ≡ TagValue → ⊥) → pick other m k c ≡ pick other m k v
    others Metric ne = refl
    others TagKey ne = refl
    others TagValue ne = absurd (ne refl)

-- a counter with another version
abbrev pub with_version : Counter → ℕ → Counter
with_version c version = record { number = c.number; version = version }

pub stamp_shown : (kind : Kind) (cells new : CellMap) (c : Counter) (version : ℕ) → get cells (kind_qual kind) ≡ value_of c → (shown kind (with_version c version) ≡ shown kind c → new ≡ cells)
    → (1 ≤ c.number → new ≡ insert cells (kind_qual kind) (to_be_bytes w64 c.number, version)) → new ≡ stamped cells (kind_qual kind) version
stamp_shown kind cells new c version found same set = at (nat_eq c.number 0) refl
  where
    at : (b : Bool) → nat_eq c.number 0 ≡ b → new ≡ stamped cells (kind_qual kind) version
    at true none = same (ap (λ b. cond b [] ((kind_qual kind, (to_be_bytes w64 c.number, version)) ∷ [])) none ∙ sym (ap (λ b. cond b [] ((kind_qual kind, (to_be_bytes w64 c.number, c.version)) ∷ [])) none))
        ∙ ap (λ o. stamped_over o cells (kind_qual kind) version) (sym (found ∙ ap (λ b. cond b None (Some (to_be_bytes w64 c.number, c.version))) none))
    at false some = set (grind (arith, nat_tests, some))
        ∙ ap (λ o. stamped_over o cells (kind_qual kind) version) (sym (found ∙ ap (λ b. cond b None (Some (to_be_bytes w64 c.number, c.version))) some))

-- the number behind a cell
pub number_shown : (c : Counter) → c.number < 2 ^ 64 → c.number ≡ option_map_or (from_be_bytes w64) (option_map (λ (p : List ℕ × ℕ). p.0) (value_of c)) 0
number_shown c small = at (nat_eq c.number 0) refl
  where
    at : (b : Bool) → nat_eq c.number 0 ≡ b → c.number ≡ option_map_or (from_be_bytes w64) (option_map (λ (p : List ℕ × ℕ). p.0) (cond b None (Some (to_be_bytes w64 c.number, c.version)))) 0
    at true none = grind (arith, nat_tests, none)
    at false some = sym (from_be_bytes-to_be_bytes_8 c.number small)

pub number_is : (kind : Kind) (m k v : Counter) → (pick kind m k v).number < 2 ^ 64 → (pick kind m k v).number ≡ number_in (counter_cells m k v) kind
number_is kind m k v small = number_shown (pick kind m k v) small ∙ ap (λ o. option_map_or (from_be_bytes w64) (option_map (λ (p : List ℕ × ℕ). p.0) o) 0) (sym (get_kind kind m k v))

-- its number fits four bytes
pub number_fits : (w : Widths) (qual value : List ℕ) → IsCounter w qual value → (number : ℕ) × (1 ≤ number) × (number ≤ most_ids 4) × (value ≡ to_be_bytes w64 number)
number_fits w qual value is = let most = greatest_fits w is.kind in (is.number, is.least, omega (arith, most, is.most), is.value_is)

-- no cell is one
pub no_counters : (w : Widths) (cells : CellMap) → cells ≡ empty → AllCounters w cells
no_counters w cells none qual value version found = absurd (no_some (value, version) (sym (ap (λ (m : CellMap). get m qual) none ∙ get-empty bytes_cmp qual) ∙ found))

-- each cell is still a counter: with one more, and with another version
pub counters_set : (w : Widths) (cells : CellMap) (qual value : List ℕ) (version : ℕ) → AllCounters w cells → IsCounter w qual value → AllCounters w (insert cells qual (value, version))
counters_set w cells qual value version all is q v n found = at (same_or_not q qual)
  where
    at : (q ≡ qual) ⊎ (q ≢ qual) → IsCounter w q v
    at (inl same) =
        let here : Some (value, version) ≡ Some (v, n) = sym (ap (get (insert cells qual (value, version))) same ∙ get-insert nat_list_cmp_total cells qual (value, version) qual ∙ ap (λ b. cond b (Some (value, version)) (get cells qual)) (tied qual)) ∙ found in
        subst (λ (x : List ℕ). IsCounter w x v) (sym same) (subst (IsCounter w qual) (ap (λ o. option_map_or (λ (p : List ℕ × ℕ). p.0) o value) here) is)
    at (inr ne) = all q v n (sym (get-insert nat_list_cmp_total cells qual (value, version) q ∙ ap (λ b. cond b (Some (value, version)) (get cells q)) (untied q qual ne)) ∙ found)

pub counters_stamped : (w : Widths) (cells : CellMap) (qual : List ℕ) (version : ℕ) → AllCounters w cells → AllCounters w (stamped cells qual version)
counters_stamped w cells qual version all = at (get cells qual) refl
  where
    at : (o : Option (List ℕ × ℕ)) → get cells qual ≡ o → AllCounters w (stamped_over o cells qual version)
    at None is = all
    at (Some c) is = counters_set w cells qual c.0 version all (all qual c.0 c.1 is)

-- the cells in order
in_order : (a b c : Bool) (x y z : List ℕ × ℕ) → T (is_sorted bytes_cmp (cond a [] ((kind_qual Metric, x) ∷ []) ++ (cond b [] ((kind_qual TagKey, y) ∷ []) ++ cond c [] ((kind_qual TagValue, z) ∷ []))))
in_order true true true x y z = tt
in_order true true false x y z = tt
in_order true false true x y z = tt
in_order true false false x y z = tt
in_order false true true x y z = tt
in_order false true false x y z = tt
in_order false false true x y z = tt
in_order false false false x y z = tt

pub cells_shown : (m k v : Counter) (one two three : List Cell) → one ≡ [] ++ map cell_from (shown Metric m) → two ≡ one ++ map cell_from (shown TagKey k) → three ≡ two ++ map cell_from (shown TagValue v) → three ≡ cells_in (counter_cells m k v)
cells_shown m k v one two three a b c =
    let x = map cell_from (shown Metric m) in
    let y = map cell_from (shown TagKey k) in
    let z = map cell_from (shown TagValue v) in
    c ∙ ap (λ (l : List Cell). l ++ z) (b ∙ ap (λ (l : List Cell). l ++ y) a) ∙ joined x y z
    ∙ sym (map_join cell_from (shown Metric m) (shown TagKey k ++ shown TagValue v) ∙ ap (λ (l : List Cell). x ++ l) (map_join cell_from (shown TagKey k) (shown TagValue v)))
    ∙ ap (map cell_from) (sym (entries_sorted_list (shown Metric m ++ (shown TagKey k ++ shown TagValue v))
    (in_order (nat_eq m.number 0) (nat_eq k.number 0) (nat_eq v.number 0) (to_be_bytes w64 m.number, m.version) (to_be_bytes w64 k.number, k.version) (to_be_bytes w64 v.number, v.version))))

-- each kind's qualifier is above those before it
above_one : (a : Bool) (x : List ℕ × ℕ) → IsAboveCells (kind_qual TagKey) (map cell_from (cond a [] ((kind_qual Metric, x) ∷ [])))
above_one true x = tt
above_one false x = (refl, tt)

above_two : (a b : Bool) (x y : List ℕ × ℕ) → IsAboveCells (kind_qual TagValue) (map cell_from (cond a [] ((kind_qual Metric, x) ∷ [])) ++ map cell_from (cond b [] ((kind_qual TagKey, y) ∷ [])))
above_two true true x y = tt
above_two true false x y = (refl, tt)
above_two false true x y = (refl, tt)
above_two false false x y = (refl, (refl, tt))

pub key_is_above : (m : Counter) (one : List Cell) → one ≡ [] ++ map cell_from (shown Metric m) → IsAboveCells (kind_qual TagKey) one
key_is_above m one e = subst (IsAboveCells (kind_qual TagKey)) (sym e) (above_one (nat_eq m.number 0) (to_be_bytes w64 m.number, m.version))

pub value_is_above : (m k : Counter) (one two : List Cell) → one ≡ [] ++ map cell_from (shown Metric m) → two ≡ one ++ map cell_from (shown TagKey k) → IsAboveCells (kind_qual TagValue) two
value_is_above m k one two a b = subst (IsAboveCells (kind_qual TagValue)) (sym (b ∙ ap (λ (l : List Cell). l ++ map cell_from (shown TagKey k)) a))
    (above_two (nat_eq m.number 0) (nat_eq k.number 0) (to_be_bytes w64 m.number, m.version) (to_be_bytes w64 k.number, k.version))

pub one_shown : (kind : Kind) (c : Counter) (q v : List ℕ) → (c.number ≡ 0 → ⊥) → q ≡ kind_qual kind → v ≡ to_be_bytes w64 c.number → (record { qual = q; value = v; version = c.version }) ∷ [] ≡ map cell_from (shown kind c)
one_shown kind c q v some qual value =
    let shows : nat_eq c.number 0 ≡ false = grind (arith, nat_tests, some) in
    (λ i. (record { qual = qual i; value = value i; version = c.version }) ∷ [])
    ∙ ap (λ b. map cell_from (cond b [] ((kind_qual kind, (to_be_bytes w64 c.number, c.version)) ∷ []))) (sym shows)

-- the lines of the cells
pub lines_shown : (m k v : Counter) (old one two three : List ListLine) → one ≡ old ++ map line_of (map (placed counter_row) (shown Metric m)) → two ≡ one ++ map line_of (map (placed counter_row) (shown TagKey k)) → three ≡ two ++ map line_of (map (placed counter_row) (shown TagValue v))
    → three ≡ old ++ map line_of (map (placed counter_row) (entries (counter_cells m k v)))
lines_shown m k v old one two three a b c =
    let x = map line_of (map (placed counter_row) (shown Metric m)) in
    let y = map line_of (map (placed counter_row) (shown TagKey k)) in
    let z = map line_of (map (placed counter_row) (shown TagValue v)) in
    let es = shown Metric m ++ (shown TagKey k ++ shown TagValue v) in
    let parts : map line_of (map (placed counter_row) es) ≡ x ++ (y ++ z) =
    ap (map line_of) (map_join (placed counter_row) (shown Metric m) (shown TagKey k ++ shown TagValue v) ∙ ap (λ (l : List (Place × Content)). map (placed counter_row) (shown Metric m) ++ l) (map_join (placed counter_row) (shown TagKey k) (shown TagValue v)))
    ∙ map_join line_of (map (placed counter_row) (shown Metric m)) (map (placed counter_row) (shown TagKey k) ++ map (placed counter_row) (shown TagValue v))
    ∙ ap (λ (l : List ListLine). x ++ l) (map_join line_of (map (placed counter_row) (shown TagKey k)) (map (placed counter_row) (shown TagValue v))) in
    c ∙ ap (λ (l : List ListLine). l ++ z) (b ∙ ap (λ (l : List ListLine). l ++ y) a) ∙ joined (old ++ x) y z ∙ joined old x (y ++ z) ∙ ap (λ (l : List ListLine). old ++ l) (sym parts)
    ∙ ap (λ (l : List (List ℕ × (List ℕ × ℕ))). old ++ map line_of (map (placed counter_row) l)) (sym (entries_sorted_list es
    (in_order (nat_eq m.number 0) (nat_eq k.number 0) (nat_eq v.number 0) (to_be_bytes w64 m.number, m.version) (to_be_bytes w64 k.number, k.version) (to_be_bytes w64 v.number, v.version))))
