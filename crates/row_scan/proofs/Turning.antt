-- One turn of a scan.
use Rattle.std.proofs.Common.{◌≡◌, ℕ, ◌-◌, ◌≤◌, List, [], ◌++◌, length, take, true, false, refl, sym, ap, subst, ◌∙◌}
use Rattle.std.proofs.Math.Seq.{take-append_seam}
use Rattle.std.proofs.lemmas.Bool.{false≢true}
use Rattle.std.specs.Prelude.{Option, Some, Result, Ok, Err, IsErr}
use Rattle.row_key.specs.declared.widths.Widths.{Widths}
use Rattle.row_key.specs.declared.keys.RowKey.{RowKey}
use Rattle.row_key.specs.declared.tables.Table.TheVariants.{Points}
use Rattle.row_key.specs.Key.{IsKey, key_bytes}
use Rattle.cell_model.specs.declared.row.Row.{Row}
use Rattle.cell_model.specs.declared.row.Found.{Found}
use Rattle.cell_model.specs.declared.events.Step.TheVariants.{NextRow}
use Rattle.cell_model.specs.declared.events.Reply.TheVariants.{Next}
use Rattle.cell_model.specs.declared.answers.RowsFault.{RowsFault}
use Rattle.std.specs.Ordering.{is_lt}
use Rattle.list_lemmas.specs.BytesOrder.{bytes_cmp}
use Rattle.cell_model.specs.Store.{next_row_of}
use Rattle.cell_model.specs.History.{History, first, store_after, entry_at}
use Rattle.cell_model.specs.Lawful.{IsLawful}
use Rattle.cell_model.specs.Ranges.{SameMetric}
use Rattle.cell_model.specs.Readings.{point_row}
use Rattle.cell_model.specs.Seen.{Seen, Waited, Stepped, IsPossible}
use Rattle.row_scan.specs.Scans.{Left, MadeSo, TurnMade}
use Rattle.list_lemmas.proofs.OrderedBytes.{prefix_between}
use Rattle.row_scan.proofs.NextRow.{Between, next_between, next_has}
use Rattle.row_scan.proofs.Lower.{first_lawful, each_entry, key_fits, sound_after, wait_made, step_made}

-- what is left is a range of the metric where the rows' ids have its widths
pub range_there : (w : Widths) (left : Left) (from to : List ℕ) → left.widths ≡ w → from ≡ left.from → to ≡ left.to → SameMetric left.widths left.from left.to → SameMetric w from to
range_there w left from to widths_are from_is to_is same =
    subst (λ (x : Widths). SameMetric x from to) widths_are (subst (λ (x : List ℕ). SameMetric left.widths x to) (sym from_is) (subst (λ (x : List ℕ). SameMetric left.widths left.from x) (sym to_is) same))

-- where a step wasn't made, nothing was
pub none_made : (left : Left) (old new : Seen) (r : Result (Option Found) RowsFault) → IsErr r → Waited old new → (IsPossible old → IsPossible new) → MadeSo old (TurnMade left r) new
none_made left old new (Ok found) is w lives = absurd (false≢true is)
none_made left old new (Err e) is w lives = ([], wait_made old new w lives, refl)

-- and where it was, that one alone
pub one_made : (left : Left) (old new : Seen) (from to : List ℕ) (found : Option Found) → from ≡ left.from → to ≡ left.to → Stepped old (NextRow Points from to) (Next found) new → IsPossible new → MadeSo old (TurnMade left (Ok found)) new
one_made left old new from to found from_is to_is st p = (_, step_made old new _ _ st p, (_, refl, ((λ i. NextRow Points (from_is i) (to_is i)), refl)))

-- what a next row found in a lawful history
pub next_at : (h : History) (place caller : ℕ) (from to : List ℕ) (o : Option Found) → IsLawful h → entry_at h place ≡ Some (record { caller = caller; step = NextRow Points from to; reply = Next o })
    → next_row_of (store_after (first (place - 1) h)) Points from to ≡ o
next_at h place caller from to o l at =
    let r = each_entry h place _ l at in
    let legal : Next o ≡ Next (next_row_of (store_after (first (place - 1) h)) Points from to) = r.reply in cc

-- a row that was found is that of a key, and in the range
pub record HasKey (w : Widths) (from to : List ℕ) (row : Row) : Type 0 where
  pub key : RowKey
  pub is_key : IsKey w key
  pub row_is : row ≡ point_row (key_bytes w key)
  pub between : Between from to row

points_row : (row : Row) (bytes : List ℕ) → row.table ≡ Points → row.bytes ≡ bytes → row ≡ point_row bytes
points_row row bytes e b i = record { table = e i; bytes = b i }

pub found_key : (h : History) (n : ℕ) (from to : List ℕ) (f : Found) → IsLawful h → next_row_of (store_after (first n h)) Points from to ≡ Some f → HasKey (store_after (first n h)).widths from to f.row
found_key h n from to f l is =
    let s = store_after (first n h) in
    let b = next_between s from to f is in
    let has = next_has s from to f is in
    let r = (sound_after (first n h) (first_lawful h n l)).rows f.row has.0 has.1 b.in_points has.2 in
    record { key = r.key; is_key = r.is_key; row_is = points_row f.row (key_bytes s.widths r.key) b.in_points r.row_is; between = b }

turned_key : (old new : Seen) (from to : List ℕ) (f : Found) → Stepped old (NextRow Points from to) (Next (Some f)) new → (p : IsPossible new) → HasKey (store_after (first (new.length - 1) p.history)).widths from to f.row
turned_key old new from to f st p = found_key p.history (new.length - 1) from to f p.lawful (next_at p.history new.length old.caller from to (Some f) p.lawful (p.fits.seen _ _ st.stepped))

pub turned_short : (old new : Seen) (from to : List ℕ) (f : Found) → Stepped old (NextRow Points from to) (Next (Some f)) new → IsPossible new → length f.row.bytes ≤ 72
turned_short old new from to f st p =
    let k = turned_key old new from to f st p in
    subst (λ (r : Row). length r.bytes ≤ 72) (sym k.row_is) (key_fits (store_after (first (new.length - 1) p.history)).widths k.key k.is_key)

pub turned_metric : (w : Widths) (old new : Seen) (from to : List ℕ) (f : Found) → SameMetric w from to → Stepped old (NextRow Points from to) (Next (Some f)) new → IsPossible new → SameMetric w f.row.bytes to
turned_metric w old new from to f same st p =
    let b = (turned_key old new from to f st p).between in
    let within = prefix_between same.metric same.from_rest same.to_rest f.row.bytes (subst (λ (x : List ℕ). is_lt (bytes_cmp f.row.bytes x) ≡ false) same.from_is b.from_on) (subst (λ (x : List ℕ). is_lt (bytes_cmp f.row.bytes x) ≡ true) same.to_is b.below) in
    record { metric = same.metric; from_rest = within.0; to_rest = same.to_rest; whole = same.whole; from_is = within.1; to_is = same.to_is }

-- the same with other names for the parts
pub behind_short : (old new : Seen) (from to bytes : List ℕ) (o : Option Found) (f : Found) → o ≡ Some f → bytes ≡ f.row.bytes → Stepped old (NextRow Points from to) (Next o) new → IsPossible new → length bytes ≤ 72
behind_short old new from to bytes o f is bytes_are st p =
    subst (λ (x : List ℕ). length x ≤ 72) (sym bytes_are) (turned_short old new from to f (subst (λ (x : Option Found). Stepped old (NextRow Points from to) (Next x) new) is st) p)

pub behind_metric : (left : Left) (old new : Seen) (from to bytes : List ℕ) (o : Option Found) (f : Found) → SameMetric left.widths left.from left.to → from ≡ left.from → to ≡ left.to → o ≡ Some f → bytes ≡ f.row.bytes
    → Stepped old (NextRow Points from to) (Next o) new → IsPossible new → SameMetric left.widths bytes left.to
behind_metric left old new from to bytes o f same from_is to_is is bytes_are st p =
    subst (λ (x : List ℕ). SameMetric left.widths x left.to) (sym bytes_are) (turned_metric left.widths old new left.from left.to f same
    (subst (λ (x : Option Found). Stepped old (NextRow Points left.from left.to) (Next x) new) is
    (subst (λ (x : List ℕ). Stepped old (NextRow Points x left.to) (Next o) new) from_is
    (subst (λ (x : List ℕ). Stepped old (NextRow Points from x) (Next o) new) to_is st))) p)

-- ---- going on at a row of the same metric

same_front : (n : ℕ) (a b x y : List ℕ) → length a ≡ n → length b ≡ n → a ++ x ≡ b ++ y → a ≡ b
same_front n a b x y la lb e =
    sym (take-append_seam a x) ∙ ap (λ m. take m (a ++ x)) (la ∙ sym lb) ∙ ap (take (length b)) e ∙ take-append_seam b y

pub metric_passed_on : (w : Widths) (at held from to : List ℕ) → held ≡ at → SameMetric w at from → SameMetric w from to → SameMetric w held to
metric_passed_on w at held from to held_is x y =
    let same = same_front w.metric x.metric y.metric x.to_rest y.from_rest x.whole y.whole (sym x.to_is ∙ y.from_is) in
    record { metric = y.metric; from_rest = x.from_rest; to_rest = y.to_rest; whole = y.whole; from_is = held_is ∙ x.from_is ∙ ap (λ (m : List ℕ). m ++ x.from_rest) same; to_is = y.to_is }
