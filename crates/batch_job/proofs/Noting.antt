-- Names that are assigned ids get the next places among the names of their kinds.
use Rattle.std.proofs.Common.{◌≡◌, ◌≢◌, inl, inr, ℕ, ◌+◌, ◌<◌, ◌≤◌, Bool, true, false, cond, List, [], ◌∷◌, ◌++◌, length, drop, zero, suc, get_or, refl, sym, ap, subst, ◌∙◌, arith, lt-ltb, add-one}
use Rattle.std.proofs.Math.Seq.{drop-cons}
use Rattle.std.specs.Prelude.{Option, None, Some, Ok, Err, option_and_then, is_some, nat_lt, if◌then◌else◌}
use Rattle.std.proofs.lemmas.Bool.{true≢false}
use Rattle.row_key.specs.Made.{three}
use Rattle.tsd_base.specs.Alphabet.{IsName}
use Rattle.tsd_base.specs.TagList.{Pair}
use Rattle.tsd_base.specs.declared.kinds.Kind.{Kind}
use Rattle.tsd_base.specs.declared.kinds.Kind.TheVariants.{TagKey, TagValue}
use Rattle.tsd_hooks.specs.declared.name_patterns.Patterns.{Patterns}
use Rattle.cell_model.specs.declared.answers.Bumped.TheVariants.{Given, Full}
use Rattle.cell_model.specs.declared.answers.Claimed.{Claimed}
use Rattle.cell_model.specs.declared.answers.Claimed.TheVariants.{Done, Held}
use Rattle.cell_model.specs.declared.events.Placed.{Placed}
use Rattle.cell_model.specs.declared.events.Reply.TheVariants.{BumpReply}
use Rattle.cell_model.specs.declared.events.Step.TheVariants.{Read, Bump, Claim}
use Rattle.cell_model.specs.Deeds.{Extends, Made}
use Rattle.cell_model.specs.History.{History, base_of, first, len, store_after}
use Rattle.cell_model.specs.History.History.{Then}
use Rattle.cell_model.specs.IdRows as model
use Rattle.cell_model.specs.IdRows.{id_number, id_row, name_row}
use Rattle.cell_model.specs.KindWidths.{Widths, IsKindId, greatest, kind_bytes}
use Rattle.cell_model.specs.Lawful.{IsLawful}
use Rattle.cell_model.specs.Machine.{counter_of, kind_qual, reply_of}
use Rattle.cell_model.specs.Seen.{Seen}
use Rattle.cell_model.specs.Store.{Store, no_cells}
use Rattle.uid_table.specs.declared.id_answers.Assigned.{Assigned}
use Rattle.uid_table.specs.declared.id_answers.Assigned.TheVariants.{Fresh, Existing, Lost}
use Rattle.uid_table.specs.declared.id_answers.AssignFault.TheVariants.{Exhausted, Filtered}
use Rattle.uid_table.specs.IdAnswers.{answered_id}
use Rattle.uid_table.specs.Shown.{HasShown}
use Rattle.uid_table.specs.IdSteps.{MadeSo, AssignMade, LookedOrKept, DidLook, DidBump, DidReverse, DidForward}
use Rattle.batch_job.specs.NotedIds.{Names, id_in, list_of, with_listed, noted_all, and_then_noted}
use Rattle.cell_model.specs.Layout.{tag_names}
use Rattle.point_lines.specs.OpenRules.{AllowsAll}
use Rattle.batch_job.specs.Storing.{IsNaming, IsNumbered, HasOnlyPuts, Notes, WasPut}
use Rattle.batch_job.proofs.Asking.{base_of_first}
use Rattle.batch_job.proofs.Entering.{PutNothing, nothing_by, nothing_more, nothing_nil, put_nothing, only_puts_follow}
use Rattle.point_lines.proofs.CallerLemmas.{looked, read_keeps}
use Rattle.point_lines.proofs.CallerLemmas.{follow, went, alone_still}
use Rattle.point_lines.proofs.CallerLemmas.{noted_all-known}
use Rattle.point_lines.proofs.CallerLemmas.{fresh, grown, id_is, kinds, not_held, numbered_grown, numbered_same}
use Rattle.batch_job.proofs.Lower.{base_widths, first_fits, first_lawful}
use Rattle.point_lines.proofs.CallerLemmas.{noted_all-append}

module _ (names : Names) (kind : Kind) (name : List ℕ) where
  one_known : is_some (id_in (list_of names kind) name) ≡ true → noted_all names ((kind, name) ∷ []) ≡ Ok names
  one_known known = noted_all-known three names ((kind, name) ∷ []) (known, tt)

  one_new : is_some (id_in (list_of names kind) name) ≡ false → nat_lt (length (list_of names kind)) (greatest three kind) ≡ true → noted_all names ((kind, name) ∷ []) ≡ Ok (grown names kind name)
  one_new unknown room =
      ap (λ b. and_then_noted (with_listed names kind (cond b (Some (list_of names kind)) (cond (nat_lt (length (list_of names kind)) (greatest three kind)) (Some (list_of names kind ++ name ∷ [])) None))) (λ more. Ok more)) unknown
      ∙ ap (λ b. and_then_noted (with_listed names kind (cond b (Some (list_of names kind ++ name ∷ [])) None)) (λ more. Ok more)) room

  one_full : is_some (id_in (list_of names kind) name) ≡ false → nat_lt (length (list_of names kind)) (greatest three kind) ≡ false → noted_all names ((kind, name) ∷ []) ≡ Err kind
  one_full unknown full =
      ap (λ b. and_then_noted (with_listed names kind (cond b (Some (list_of names kind)) (cond (nat_lt (length (list_of names kind)) (greatest three kind)) (Some (list_of names kind ++ name ∷ [])) None))) (λ more. Ok more)) unknown
      ∙ ap (λ b. and_then_noted (with_listed names kind (cond b (Some (list_of names kind ++ name ∷ [])) None)) (λ more. Ok more)) full

-- ---- the greatest id of three bytes
most_three : (w : Widths) (kind : Kind) → w ≡ three → greatest w kind ≡ greatest three kind
most_three w kind same = ap (λ (x : Widths). greatest x kind) same

-- ---- the entries for a name that gets an id
puts_nothing : (widths : Widths) (r b n f : Placed) (kind : Kind) (name : List ℕ) (id : ℕ) (reply : Claimed) → DidLook r kind name None → DidBump b kind id → DidReverse widths n kind name id → DidForward widths f kind name id reply
    → PutNothing (r ∷ b ∷ n ∷ f ∷ [])
puts_nothing widths r b n f kind name id reply look bumped reversed forwarded =
    nothing_more r (b ∷ n ∷ f ∷ []) (nothing_by r (Read (name_row name)) look.did.0 tt)
    (nothing_more b (n ∷ f ∷ []) (nothing_by b (Bump kind) bumped.0 tt)
    (nothing_more n (f ∷ []) (nothing_by n (Claim (id_row widths kind id) (kind_qual kind) name) reversed.0 tt)
    (nothing_more f [] (nothing_by f (Claim (name_row name) (kind_qual kind) (kind_bytes widths kind id)) forwarded.0 tt) nothing_nil)))

-- ---- what an assignment makes
module _ (old new : Seen) (kind : Kind) (name : List ℕ) (is_name : IsName name) (names : Names) (naming : IsNaming names old) where
  -- the same names have ids after entries that put nothing and leave the numbers as they are
  named_after : (list : List Placed) (more : Names) → Made old list new → PutNothing list
      → ((h : History) → IsLawful (follow h list) → IsNumbered names h → IsNumbered more (follow h list)) → IsNaming more new
  named_after list more made never goes = record {
    by = alone_still three old new list made naming.by;
    numbered = λ h lawful fits.
        let w = went three old new list h made naming.by lawful fits in
        subst (IsNumbered more) (sym w.after_is) (goes (first old.length h) w.lawful (naming.numbered h (lawful) w.fitted));
    only_puts = λ h lawful fits.
        let w = went three old new list h made naming.by lawful fits in
        subst HasOnlyPuts (sym w.after_is) (only_puts_follow (first old.length h) list never (naming.only_puts h lawful w.fitted));
    unput = λ h lawful fits r put.
        let w = went three old new list h made naming.by lawful fits in
        naming.unput h lawful w.fitted r (put_nothing (first old.length h) list never r (subst (λ x. WasPut x r) w.after_is put));
  }

  -- what holds of an earlier history that goes on so
  at_some : {G : Type 0} (list : List Placed) → Made old list new → ((h : History) → (store_after h).widths ≡ three → IsLawful (follow h list) → IsNumbered names h → G) → G
  at_some list made goes =
      let p = made.since.lives naming.by.possible in
      let w = went three old new list p.history made naming.by p.lawful p.fits in
      let base : base_of (first old.length p.history) ≡ no_cells three = base_of_first p.history old.length ∙ w.fitted.base ∙ naming.by.base in
      goes (first old.length p.history) (sym (base_widths (first old.length p.history)) ∙ ap (λ (x : Store). x.widths) base) w.lawful (naming.numbered p.history p.lawful w.fitted)

  abbrev Noted : Type 0
  Noted = (more : Names) × (noted_all names ((kind, name) ∷ []) ≡ Ok more) × IsNaming more new

  cut : (list : List Placed) (other : List Placed) → list ≡ other → Made old list new → Made old other new
  cut list other same made = subst (λ xs. Made old xs new) same made

  -- an id that was shown is among those of the names
  has_id : IsNaming names new → (id : ℕ) → HasShown new kind name id → is_some (id_in (list_of names kind) name) ≡ true
  has_id naming_new id shown =
      let p = naming_new.by.possible in
      let itself : Extends new new = record { base = refl; length = omega arith; kept = λ place e saw. saw; fits = λ h f. f } in
      ap is_some
      (sym ((naming_new.numbered p.history p.lawful p.fits).ids kind name is_name)
      ∙ shown.stands new itself (first new.length p.history) (first_lawful p.history new.length p.lawful) (first_fits new p.history p.fits))

  -- behind one read, or none, the names have the ids that they had
  still : (id : ℕ) (list : List Placed) → Made old list new → LookedOrKept old.base.widths kind name id list → IsNaming names new
  still id list made (inl none) = named_after [] names (cut list [] none made) nothing_nil (λ h lawful n. n)
  still id list made (inr (d, is, look)) =
      named_after (d ∷ []) names (cut list (d ∷ []) is made) (nothing_more d [] (nothing_by d (Read (name_row name)) look.did.0 tt) nothing_nil)
      (λ h lawful n. numbered_same names h (Then h d.entry) (read_keeps h d.entry (name_row name) look.did.0) n)

  existing : (id : ℕ) (list : List Placed) → Made old list new → LookedOrKept old.base.widths kind name id list → HasShown new kind name id → Noted
  existing id list made kept shown =
      let naming_new = still id list made kept in
      (names, one_known names kind name (has_id naming_new id shown), naming_new)

  given_new : (id : ℕ) (r b n f : Placed) → Made old (r ∷ b ∷ n ∷ f ∷ []) new → DidLook r kind name None → DidBump b kind id → DidReverse old.base.widths n kind name id → DidForward old.base.widths f kind name id Done → IsKindId old.base.widths kind id → Noted
  given_new id r b n f made look bumped reversed forwarded is_id =
      let unknown : is_some (id_in (list_of names kind) name) ≡ false =
      at_some (r ∷ b ∷ n ∷ f ∷ []) made (λ h wide lawful num. ap is_some (fresh old.base.widths h r b n f kind name id Done names is_name lawful look bumped reversed forwarded num)) in
      let count : id ≡ length (list_of names kind) + 1 =
      at_some (r ∷ b ∷ n ∷ f ∷ []) made (λ h wide lawful num. id_is old.base.widths h r b n f kind name id Done names is_name lawful look bumped reversed forwarded num) in
      let most = is_id.1 in
      let all = most_three old.base.widths kind (ap (λ (x : Store). x.widths) naming.by.base) in (
        grown names kind name,
        one_new names kind name unknown (lt-ltb (length (list_of names kind)) (greatest three kind) (omega (arith, count, most, all))),
        named_after (r ∷ b ∷ n ∷ f ∷ []) (grown names kind name) made
            (puts_nothing old.base.widths r b n f kind name id Done look bumped reversed forwarded)
            (λ h lawful num. numbered_grown old.base.widths h r b n f kind name id Done names is_name lawful look bumped reversed forwarded num is_id refl),
      )

  lost : (wasted id : ℕ) (r b n f : Placed) → Made old (r ∷ b ∷ n ∷ f ∷ []) new → DidLook r kind name None → DidBump b kind wasted → DidReverse old.base.widths n kind name wasted → DidForward old.base.widths f kind name wasted (Held (kind_bytes old.base.widths kind id)) → ⊥
  lost wasted id r b n f made look bumped reversed forwarded =
      at_some (r ∷ b ∷ n ∷ f ∷ []) made (λ h wide lawful num. not_held old.base.widths h r b n f kind name wasted (Held (kind_bytes old.base.widths kind id)) names is_name lawful look bumped reversed forwarded num (kind_bytes old.base.widths kind id) refl)

  assigned : (patterns : Patterns) (a : Assigned) → MadeSo old (AssignMade old.base.widths patterns kind name (Ok a)) new → HasShown new kind name (answered_id a) → Noted
  assigned patterns (Existing id) (list, made, kept) shown = existing id list made kept shown
  assigned patterns (Fresh id) (list, made, (d, rest, list_is, look, (admitted, gave))) shown =
      given_new id d gave.bump gave.reverse gave.forward (cut list (d ∷ gave.bump ∷ gave.reverse ∷ gave.forward ∷ []) (list_is ∙ ap (λ xs. d ∷ xs) gave.list_is) made) look gave.bumped gave.reversed gave.forwarded
      (subst (λ (x : Store). IsKindId x.widths kind id) made.since.extends.base shown.is_id)
  assigned patterns (Lost wasted id) (list, made, (d, rest, list_is, look, (admitted, gave))) shown =
      absurd (lost wasted id d gave.bump gave.reverse gave.forward (cut list (d ∷ gave.bump ∷ gave.reverse ∷ gave.forward ∷ []) (list_is ∙ ap (λ xs. d ∷ xs) gave.list_is) made) look gave.bumped gave.reversed gave.forwarded)

  -- the counter was full
  was_full : (n most : ℕ) → BumpReply Full ≡ BumpReply (if nat_lt n most then Given (n + 1) else Full) → nat_lt n most ≡ false
  was_full n most = at (nat_lt n most)
    where
      at : (b : Bool) → BumpReply Full ≡ BumpReply (if b then Given (n + 1) else Full) → b ≡ false
      at true e = cc
      at false e = refl

  exhausted : (patterns : Patterns) (k : Kind) → MadeSo old (AssignMade old.base.widths patterns kind name (Err (Exhausted k))) new → noted_all names ((kind, name) ∷ []) ≡ Err k
  exhausted patterns k (list, made, (d, rest, list_is, look, (admitted, (same, (b, rest_is, bumped))))) =
      at_some (d ∷ b ∷ []) (cut list (d ∷ b ∷ []) (list_is ∙ ap (λ xs. d ∷ xs) rest_is) made) (λ h wide lawful n.
      let h1 : History = Then h d.entry in
      let unknown : is_some (id_in (list_of names kind) name) ≡ false = ap is_some (sym (n.ids kind name is_name) ∙ ap (option_and_then id_number) (looked h d kind name None lawful.0.2 look)) in
      let counter : counter_of (store_after h1) kind ≡ length (list_of names kind) = ap (λ s. counter_of s kind) (read_keeps h d.entry (name_row name) look.did.0) ∙ n.counts kind in
      let full = was_full (counter_of (store_after h1) kind) (greatest (store_after h1).widths kind) (sym bumped.1 ∙ lawful.2 ∙ ap (reply_of (store_after h1) (len h1 + 1)) bumped.0) in
      one_full names kind name unknown (ap (λ n. nat_lt n (greatest three kind)) (sym counter) ∙ ap (nat_lt (counter_of (store_after h1) kind)) (sym (most_three (store_after h1).widths kind wide)) ∙ full) ∙ ap Err (sym same))

-- what an assignment notes
pub assign_notes : (patterns : Patterns) (old new : Seen) (kind : Kind) (name : List ℕ) → IsName name → (a : Assigned) → MadeSo old (AssignMade old.base.widths patterns kind name (Ok a)) new → HasShown new kind name (answered_id a) → Notes old ((kind, name) ∷ []) None new
assign_notes patterns old new kind name is_name a made shown = λ names naming. assigned old new kind name is_name names naming patterns a made shown

pub assign_full : (patterns : Patterns) (old new : Seen) (kind : Kind) (name : List ℕ) → IsName name → (k : Kind) → MadeSo old (AssignMade old.base.widths patterns kind name (Err (Exhausted k))) new → Notes old ((kind, name) ∷ []) (Some k) new
assign_full patterns old new kind name is_name k made = λ names naming. exhausted old new kind name is_name names naming patterns k made

-- where each name is allowed none is filtered
pub never_filtered : (patterns : Patterns) (old new : Seen) (kind : Kind) (name : List ℕ) → AllowsAll patterns → (k : Kind) → MadeSo old (AssignMade old.base.widths patterns kind name (Err (Filtered k))) new → ⊥
never_filtered patterns old new kind name all k (list, made, (d, rest, list_is, look, (same, off, none))) = true≢false (sym (all.allows kind name) ∙ off)

-- ---- names one after the other
pub notes_none : (s : Seen) → Notes s [] None s
notes_none s = λ names naming. (names, refl, naming)

pub notes_then : (a b c : Seen) (ns ms : List (Kind × List ℕ)) (full : Option Kind) → Notes a ns None b → Notes b ms full c → Notes a (ns ++ ms) full c
notes_then a b c ns ms None x y = λ names naming.
    let first = x names naming in
    let second = y first.0 first.2 in
    (second.0, noted_all-append three ns ms names ∙ ap (λ r. and_then_noted r (λ more. noted_all more ms)) first.1 ∙ second.1, second.2)
notes_then a b c ns ms (Some kind) x y = λ names naming.
    let first = x names naming in
    noted_all-append three ns ms names ∙ ap (λ r. and_then_noted r (λ more. noted_all more ms)) first.1 ∙ y first.0 first.2

-- the first name for which there is none ends it
pub notes_cut : (a b : Seen) (ns ms : List (Kind × List ℕ)) (kind : Kind) → Notes a ns (Some kind) b → Notes a (ns ++ ms) (Some kind) b
notes_cut a b ns ms kind x = λ names naming. noted_all-append three ns ms names ∙ ap (λ r. and_then_noted r (λ more. noted_all more ms)) (x names naming)

-- ---- the names of tags from a place on
left_is : (tags : List Pair) (i : ℕ) (t : Pair) → i < length tags → get_or tags i t ≡ t → drop i tags ≡ t ∷ drop (i + 1) tags
left_is tags i t within is = drop-cons tags i t within ∙ ap (λ x. x ∷ drop (suc i) tags) is ∙ ap (λ n. t ∷ drop n tags) (sym (add-one i))

pub left_full : (a b : Seen) (tags : List Pair) (i : ℕ) (t : Pair) (kind : Kind) → i < length tags → get_or tags i t ≡ t
    → Notes a ((TagKey, t.0) ∷ (TagValue, t.1) ∷ []) (Some kind) b → Notes a (tag_names (drop i tags)) (Some kind) b
left_full a b tags i t kind within is one =
    subst (λ (ts : List Pair). Notes a (tag_names ts) (Some kind) b) (sym (left_is tags i t within is)) (notes_cut a b ((TagKey, t.0) ∷ (TagValue, t.1) ∷ []) (tag_names (drop (i + 1) tags)) kind one)

pub left_noted : (a b c : Seen) (tags : List Pair) (i : ℕ) (t : Pair) (full : Option Kind) → i < length tags → get_or tags i t ≡ t
    → Notes a ((TagKey, t.0) ∷ (TagValue, t.1) ∷ []) None b → Notes b (tag_names (drop (i + 1) tags)) full c → Notes a (tag_names (drop i tags)) full c
left_noted a b c tags i t full within is one rest =
    subst (λ (ts : List Pair). Notes a (tag_names ts) full c) (sym (left_is tags i t within is)) (notes_then a b c ((TagKey, t.0) ∷ (TagValue, t.1) ∷ []) (tag_names (drop (i + 1) tags)) full one rest)

drop_all : (xs : List Pair) (n : ℕ) → length xs ≤ n → drop n xs ≡ []
drop_all [] zero le = refl
drop_all [] (suc n) le = refl
drop_all (x ∷ xs) zero le = absurd (omega (arith, le))
drop_all (x ∷ xs) (suc n) le = drop_all xs n (omega (arith, le))

pub none_left : (s : Seen) (tags : List Pair) (i : ℕ) → length tags ≤ i → Notes s (tag_names (drop i tags)) None s
none_left s tags i le = subst (λ (ts : List Pair). Notes s (tag_names ts) None s) (sym (drop_all tags i le)) (notes_none s)
