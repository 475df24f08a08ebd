-- The names of a point, one after the other.
use Rattle.std.proofs.Common.{◌≡◌, ◌⊎◌, inl, inr, ℕ, ◌-◌, true, false, List, [], ◌∷◌, ◌++◌, refl, sym, ap, subst, ◌∙◌, append_assoc, arith}
use Rattle.std.proofs.lemmas.Result.{err_from_is_err_and}
use Rattle.std.specs.Prelude.{Contains, None, Result, Ok, Err, IsErrAnd}
use Rattle.uid_table.proofs.CallerLemmas.{shown_kept}
use Rattle.list_lemmas.proofs.ListCuts.{nothing_behind}
use Rattle.tsd_base.specs.declared.kinds.Kind.{Kind}
use Rattle.cell_model.specs.declared.events.Placed.{Placed}
use Rattle.cell_model.specs.declared.answers.Claimed.{Claimed}
use Rattle.cell_model.specs.declared.answers.Claimed.TheVariants.{Done, Held}
use Rattle.cell_model.specs.KindWidths.{Widths, kind_bytes}
use Rattle.cell_model.specs.Store.{Store}
use Rattle.cell_model.specs.History.{History, first, store_after}
use Rattle.cell_model.specs.Lawful.{IsLawful}
use Rattle.cell_model.specs.Seen.{Seen, Fits, InEach}
use Rattle.cell_model.specs.Deeds.{Extends, Made}
use Rattle.uid_table.specs.declared.id_answers.Assigned.{Assigned}
use Rattle.uid_table.specs.declared.id_answers.Assigned.TheVariants.{Fresh, Existing, Lost}
use Rattle.uid_table.specs.declared.id_answers.AssignFault.{AssignFault}
use Rattle.uid_table.specs.declared.id_answers.AssignFault.TheVariants as assign
use Rattle.uid_table.specs.declared.id_answers.ResolveFault.TheVariants as resolve
use Rattle.uid_table.specs.IdAnswers.{answered_id}
use Rattle.uid_table.specs.Shown.{HasShown}
use Rattle.uid_table.specs.IdSteps.{MadeSo, DidLook, LookedOrKept, Gave, GaveUp, AssignMade, ResolveMade}
use Rattle.uid_table.specs.IdSteps.GaveUp.{before, bumped, reversed}
use Rattle.point_put.specs.declared.fault.PutFault.{PutFault}
use Rattle.point_put.specs.declared.fault.PutFault.TheVariants.{Unknown, Filtered, Exhausted, OutOfMemory, Stopped}
use Rattle.point_put.specs.Configs.{makes}
use Rattle.point_put.specs.Admissions.{Admission, IsAdmitted}
use Rattle.point_put.specs.Entries.{ForName, ForNames, InTurn, EndsAt, ResolvedBefore}
use Rattle.point_put.specs.Entries.ForNames.{nil, more}
use Rattle.point_put.specs.Entries.InTurn.{done, then_next}
use Rattle.point_put.specs.ShownIds.{AllShown, StopsAt, Fails, Answered, NamesAsked}
use Rattle.cell_laws.proofs.CallerLemmas.{deeds_each, first_lawful, fits_longer, itself, made_joined, nothing_made, seen_carry}
use Rattle.list_lemmas.proofs.ListMembers.{here, there, split, not_in}

abbrev Names : Type 0
Names = List (Kind × List ℕ)

-- the entries of an assignment are those of one name
given_up : (w : Widths) (c : Admission) (kind : Kind) (name : List ℕ) (d : Placed) (rest : List Placed) → IsAdmitted c kind name → DidLook d kind name None → GaveUp w kind name rest → ForName w c kind name (d ∷ rest)
given_up w c kind name d _ m l before = ForName.look None l
given_up w c kind name d _ m l (bumped id b) = ForName.bump id m l b
given_up w c kind name d _ m l (reversed id b r) = ForName.reverse id m l b r

all_given : (w : Widths) (c : Admission) (kind : Kind) (name : List ℕ) (id : ℕ) (reply : Claimed) (d : Placed) (rest list : List Placed) → IsAdmitted c kind name → list ≡ d ∷ rest → DidLook d kind name None → Gave w kind name id reply rest → ForName w c kind name list
all_given w c kind name id reply d rest list m is l g = subst (ForName w c kind name) (sym (is ∙ ap (λ xs. d ∷ xs) g.list_is)) (ForName.forward id reply m l g.bumped g.reversed g.forwarded)

looked_or_kept : (w : Widths) (c : Admission) (kind : Kind) (name : List ℕ) (id : ℕ) (list : List Placed) → LookedOrKept w kind name id list → ForName w c kind name list
looked_or_kept w c kind name id list (inl none) = subst (ForName w c kind name) (sym none) ForName.none
looked_or_kept w c kind name id list (inr (d, is, l)) = subst (ForName w c kind name) (sym is) (ForName.look _ l)

pub for_assign : (w : Widths) (c : Admission) (kind : Kind) (name : List ℕ) (r : Result Assigned AssignFault) (list : List Placed) → makes c.config kind ≡ true → AssignMade w c.patterns kind name r list → ForName w c kind name list
for_assign w c kind name (Ok (Existing id)) list m kept = looked_or_kept w c kind name id list kept
for_assign w c kind name (Ok (Fresh id)) list m (d, rest, is, l, (ok, g)) = all_given w c kind name id Done d rest list (m, ok) is l g
for_assign w c kind name (Ok (Lost wasted id)) list m (d, rest, is, l, (ok, g)) = all_given w c kind name wasted (Held (kind_bytes w kind id)) d rest list (m, ok) is l g
for_assign w c kind name (Err (assign.Filtered k)) list m (d, rest, is, l, (same, off, last)) = subst (ForName w c kind name) (sym (is ∙ ap (λ xs. d ∷ xs) last)) (ForName.look None l)
for_assign w c kind name (Err (assign.Exhausted k)) list m (d, rest, is, l, (ok, (same, (b, last, did)))) = subst (ForName w c kind name) (sym (is ∙ ap (λ xs. d ∷ xs) last)) (ForName.full (m, ok) l did)
for_assign w c kind name (Err assign.OutOfMemory) list m (inl none) = subst (ForName w c kind name) (sym none) ForName.none
for_assign w c kind name (Err assign.OutOfMemory) list m (inr (d, rest, is, l, (ok, g))) = subst (ForName w c kind name) (sym is) (given_up w c kind name d rest (m, ok) l g)
for_assign w c kind name (Err assign.Stopped) list m (inl none) = subst (ForName w c kind name) (sym none) ForName.none
for_assign w c kind name (Err assign.Stopped) list m (inr (d, rest, is, l, (ok, g))) = subst (ForName w c kind name) (sym is) (given_up w c kind name d rest (m, ok) l g)

one_name : (w : Widths) (c : Admission) (kind : Kind) (name : List ℕ) (list : List Placed) → ForName w c kind name list → ForNames w c ((kind, name) ∷ []) list
one_name w c kind name list f = subst (ForNames w c ((kind, name) ∷ [])) (nothing_behind list) (more f nil)

none_after : (h : History) (n : Kind × List ℕ) → ResolvedBefore h n []
none_after h n d is = absurd (not_in d is)

one_turn : (c : Admission) (old new : Seen) (kind : Kind) (name : List ℕ) (list : List Placed) → Made old list new → ForName old.base.widths c kind name list → InEach new (λ h. InTurn c h ((kind, name) ∷ []) list)
one_turn c old new kind name list made f h l fits =
    let base : new.base ≡ old.base = made.since.extends.base in
    let one : ForName (store_after h).widths c kind name list = seen_carry fits (λ w. ForName w c kind name list) (subst (λ (b : Store). ForName b.widths c kind name list) (sym base) f) in
    subst (InTurn c h ((kind, name) ∷ [])) (nothing_behind list) (then_next one (none_after h (kind, name)) done)

shown_one : (s : Seen) (kind : Kind) (name : List ℕ) (id : ℕ) → HasShown s kind name id → AllShown s ((kind, name) ∷ [])
shown_one s kind name id h k n c = at (split (kind, name) (k, n) [] c)
  where
    none : List (Kind × List ℕ)
    none = []

    at : (◌≡◌ {A = Kind × List ℕ} (kind, name) (k, n)) ⊎ Contains none (k, n) → (i : ℕ) × HasShown s k n i
    at (inl same) = subst (λ (x : Kind × List ℕ). (i : ℕ) × HasShown s x.0 x.1 i) same (id, h)
    at (inr later) = absurd (not_in (k, n) later)

shown_none : (s : Seen) → AllShown s []
shown_none s k n c = absurd (not_in (k, n) c)

-- one name was asked
asked_one : {T : Type 0} (c : Admission) (old new : Seen) (kind : Kind) (name : List ℕ) (r : Result T PutFault) (list : List Placed) → Made old list new → ForName old.base.widths c kind name list → Answered {T = T} c ((kind, name) ∷ []) new r list
    → NamesAsked {T = T} c ((kind, name) ∷ []) old r new
asked_one c old new kind name r list made f answered = record { list = list; made = made; entries = one_name old.base.widths c kind name list f; turns = one_turn c old new kind name list made f; answered = answered }

stops_one : (c : Admission) (old new : Seen) (kind : Kind) (name : List ℕ) (list : List Placed) → Made old list new → ForName old.base.widths c kind name list → StopsAt c ((kind, name) ∷ []) new kind name list
stops_one c old new kind name list made f = record { before = []; behind = []; names_are = refl; shown = shown_none new; entries = one_turn c old new kind name list made f }

-- one name that was assigned
pub assigned_ok : (c : Admission) (old new : Seen) (kind : Kind) (name : List ℕ) (a : Assigned) (id : ℕ) → makes c.config kind ≡ true → MadeSo old (AssignMade old.base.widths c.patterns kind name (Ok a)) new → HasShown new kind name (answered_id a)
    → NamesAsked {T = ℕ} c ((kind, name) ∷ []) old (Ok id) new
assigned_ok c old new kind name a id m (list, made, q) h = asked_one c old new kind name (Ok id) list made (for_assign old.base.widths c kind name (Ok a) list m q) (shown_one new kind name _ h)

pub assigned_filtered : (c : Admission) (old new : Seen) (kind k : Kind) (name n : List ℕ) → n ≡ name → makes c.config kind ≡ true → MadeSo old (AssignMade old.base.widths c.patterns kind name (Err (assign.Filtered k))) new
    → NamesAsked {T = ℕ} c ((kind, name) ∷ []) old (Err (Filtered k n)) new
assigned_filtered c old new kind k name n told m (list, made, (d, rest, is, l, (same, off, last))) =
    let f = for_assign old.base.widths c kind name (Err (assign.Filtered k)) list m (d, rest, is, l, (same, off, last)) in
    let one : NamesAsked {T = ℕ} c ((kind, name) ∷ []) old (Err (Filtered kind name)) new =
    asked_one c old new kind name (Err (Filtered kind name)) list made f (stops_one c old new kind name list made f, (m, off, ([], d, is ∙ ap (λ xs. d ∷ xs) last, l))) in
    subst (λ (x : Kind × List ℕ). NamesAsked {T = ℕ} c ((kind, name) ∷ []) old (Err (Filtered x.0 x.1)) new) (λ i. ((sym same) i, (sym told) i)) one

-- no memory for the name that is told
pub assigned_without : (c : Admission) (old new : Seen) (kind k : Kind) (name : List ℕ) → makes c.config kind ≡ true → MadeSo old (AssignMade old.base.widths c.patterns kind name (Err (assign.Filtered k))) new → NamesAsked {T = ℕ} c ((kind, name) ∷ []) old (Err OutOfMemory) new
assigned_without c old new kind k name m (list, made, q) = asked_one c old new kind name (Err OutOfMemory) list made (for_assign old.base.widths c kind name (Err (assign.Filtered k)) list m q) tt

pub assigned_full : (c : Admission) (old new : Seen) (kind k : Kind) (name : List ℕ) → makes c.config kind ≡ true → MadeSo old (AssignMade old.base.widths c.patterns kind name (Err (assign.Exhausted k))) new
    → NamesAsked {T = ℕ} c ((kind, name) ∷ []) old (Err (Exhausted k)) new
assigned_full c old new kind k name m (list, made, (d, rest, is, l, (ok, (same, (b, last, did))))) =
    let f = for_assign old.base.widths c kind name (Err (assign.Exhausted k)) list m (d, rest, is, l, (ok, (same, (b, last, did)))) in
    let full : NamesAsked {T = ℕ} c ((kind, name) ∷ []) old (Err (Exhausted kind)) new =
    asked_one c old new kind name (Err (Exhausted kind)) list made f (name, stops_one c old new kind name list made f, ((m, ok), ([], d, b, is ∙ ap (λ xs. d ∷ xs) last, l, did))) in
    subst (λ (x : Kind). NamesAsked {T = ℕ} c ((kind, name) ∷ []) old (Err (Exhausted x)) new) (sym same) full

pub assigned_memory : (c : Admission) (old new : Seen) (kind : Kind) (name : List ℕ) → makes c.config kind ≡ true → MadeSo old (AssignMade old.base.widths c.patterns kind name (Err assign.OutOfMemory)) new → NamesAsked {T = ℕ} c ((kind, name) ∷ []) old (Err OutOfMemory) new
assigned_memory c old new kind name m (list, made, q) = asked_one c old new kind name (Err OutOfMemory) list made (for_assign old.base.widths c kind name (Err assign.OutOfMemory) list m q) tt

pub assigned_stopped : (c : Admission) (old new : Seen) (kind : Kind) (name : List ℕ) → makes c.config kind ≡ true → MadeSo old (AssignMade old.base.widths c.patterns kind name (Err assign.Stopped)) new → NamesAsked {T = ℕ} c ((kind, name) ∷ []) old (Err Stopped) new
assigned_stopped c old new kind name m (list, made, q) = asked_one c old new kind name (Err Stopped) list made (for_assign old.base.widths c kind name (Err assign.Stopped) list m q) tt

-- one name that was resolved
pub resolved_ok : (c : Admission) (old new : Seen) (kind : Kind) (name : List ℕ) (id : ℕ) → MadeSo old (ResolveMade old.base.widths kind name (Ok id)) new → HasShown new kind name id → NamesAsked {T = ℕ} c ((kind, name) ∷ []) old (Ok id) new
resolved_ok c old new kind name id (list, made, kept) h = asked_one c old new kind name (Ok id) list made (looked_or_kept old.base.widths c kind name id list kept) (shown_one new kind name id h)

looked_once : (w : Widths) (c : Admission) (kind : Kind) (name : List ℕ) (d : Placed) (list : List Placed) → list ≡ d ∷ [] → DidLook d kind name None → ForName w c kind name list
looked_once w c kind name d list is l = subst (ForName w c kind name) (sym is) (ForName.look None l)

not_asked : (w : Widths) (c : Admission) (kind : Kind) (name : List ℕ) (list : List Placed) → list ≡ [] → ForName w c kind name list
not_asked w c kind name list none = subst (ForName w c kind name) (sym none) ForName.none

pub resolved_unknown : (c : Admission) (old new : Seen) (kind k : Kind) (name n : List ℕ) → n ≡ name → makes c.config kind ≡ false → MadeSo old (ResolveMade old.base.widths kind name (Err (resolve.Unknown k))) new
    → NamesAsked {T = ℕ} c ((kind, name) ∷ []) old (Err (Unknown k n)) new
resolved_unknown c old new kind k name n same m (list, made, (of, (d, is, l))) =
    let f = looked_once old.base.widths c kind name d list is l in
    let one : NamesAsked {T = ℕ} c ((kind, name) ∷ []) old (Err (Unknown kind name)) new = asked_one c old new kind name (Err (Unknown kind name)) list made f (stops_one c old new kind name list made f, (m, ([], d, is, l))) in
    subst (λ (x : Kind × List ℕ). NamesAsked {T = ℕ} c ((kind, name) ∷ []) old (Err (Unknown x.0 x.1)) new) (λ i. ((sym of) i, (sym same) i)) one

-- no memory for the name that is told
pub resolved_without : (c : Admission) (old new : Seen) (kind k : Kind) (name : List ℕ) → MadeSo old (ResolveMade old.base.widths kind name (Err (resolve.Unknown k))) new → NamesAsked {T = ℕ} c ((kind, name) ∷ []) old (Err OutOfMemory) new
resolved_without c old new kind k name (list, made, (of, (d, is, l))) = asked_one c old new kind name (Err OutOfMemory) list made (looked_once old.base.widths c kind name d list is l) tt

pub resolved_memory : (c : Admission) (old new : Seen) (kind : Kind) (name : List ℕ) → MadeSo old (ResolveMade old.base.widths kind name (Err resolve.OutOfMemory)) new → NamesAsked {T = ℕ} c ((kind, name) ∷ []) old (Err OutOfMemory) new
resolved_memory c old new kind name (list, made, none) = asked_one c old new kind name (Err OutOfMemory) list made (not_asked old.base.widths c kind name list none) tt

pub resolved_stopped : (c : Admission) (old new : Seen) (kind : Kind) (name : List ℕ) → MadeSo old (ResolveMade old.base.widths kind name (Err resolve.Stopped)) new → NamesAsked {T = ℕ} c ((kind, name) ∷ []) old (Err Stopped) new
resolved_stopped c old new kind name (list, made, none) = asked_one c old new kind name (Err Stopped) list made (not_asked old.base.widths c kind name list none) tt

pub all_kept : (s t : Seen) (names : Names) → Extends s t → AllShown s names → AllShown t names
all_kept s t names e all k n c = let w = all k n c in (w.0, shown_kept s t k n w.0 e w.1)

-- members of two lists
pub in_either : {X : Type 0} (xs ys : List X) (y : X) → Contains (xs ++ ys) y → Contains xs y ⊎ Contains ys y
in_either [] ys y c = inr c
in_either {X} (x ∷ xs) ys y c = at (split x y (xs ++ ys) c) (in_either xs ys y)
  where
    at : (x ≡ y) ⊎ Contains (xs ++ ys) y → (Contains (xs ++ ys) y → Contains xs y ⊎ Contains ys y) → Contains (x ∷ xs) y ⊎ Contains ys y
    at (inl same) go = inl (subst (Contains (x ∷ xs)) same (here x xs))
    at (inr later) go = elim (go later) [ inl l ↦ inl (there x y xs l) | inr r ↦ inr r ]

pub in_right : {X : Type 0} (xs ys : List X) (y : X) → Contains ys y → Contains (xs ++ ys) y
in_right [] ys y c = c
in_right (x ∷ xs) ys y c = there x y (xs ++ ys) (in_right xs ys y c)

pub in_left : {X : Type 0} (xs ys : List X) (y : X) → Contains xs y → Contains (xs ++ ys) y
in_left [] ys y c = absurd (not_in y c)
in_left (x ∷ xs) ys y c = elim (split x y xs c) [ inl same ↦ subst (Contains (x ∷ (xs ++ ys))) same (here x (xs ++ ys)) | inr later ↦ there x y (xs ++ ys) (in_left xs ys y later) ]

all_joined : (s : Seen) (xs ys : Names) → AllShown s xs → AllShown s ys → AllShown s (xs ++ ys)
all_joined s xs ys a b k n c = elim (in_either xs ys (k, n) c) [ inl l ↦ a k n l | inr r ↦ b k n r ]

names_joined : (w : Widths) (c : Admission) (xs ys : Names) (l m : List Placed) → ForNames w c xs l → ForNames w c ys m → ForNames w c (xs ++ ys) (l ++ m)
names_joined w c _ ys _ m nil b = b
names_joined w c _ ys _ m (more {kind} {name} {names} {part} {list} f a) b =
    subst (ForNames w c ((kind, name) ∷ (names ++ ys))) (sym (append_assoc part list m)) (more f (names_joined w c names ys list m a b))

pub none_for : (w : Widths) (c : Admission) (ys : Names) → ForNames w c ys []
none_for w c [] = nil
none_for w c (n ∷ ys) = more ForName.none (none_for w c ys)

pub none_in_turn : (c : Admission) (h : History) (ys : Names) → InTurn c h ys []
none_in_turn c h [] = done
none_in_turn c h (n ∷ ys) = then_next ForName.none (none_after h n) (none_in_turn c h ys)

-- the entries in turn are those for the names
pub names_in_turn : {c : Admission} {h : History} {names : Names} {list : List Placed} → InTurn c h names list → ForNames (store_after h).widths c names list
names_in_turn done = nil
names_in_turn (then_next f resolved rest) = more f (names_in_turn rest)

pub names_to_end : {c : Admission} {h : History} {names : Names} {kind : Kind} {name : List ℕ} {list : List Placed} → EndsAt c h names kind name list → ForNames (store_after h).widths c names list
names_to_end {c} {h} {names} {kind} {name} {list} e =
    let w = (store_after h).widths in
    let told : Names = (kind, name) ∷ [] in
    let all = names_joined w c (e.before ++ told) e.behind list [] (names_in_turn e.entries) (none_for w c e.behind) in
    subst (λ (ns : Names). ForNames w c ns list) (sym (e.names_are ∙ sym (append_assoc e.before told e.behind))) (subst (ForNames w c ((e.before ++ told) ++ e.behind)) (nothing_behind list) all)

-- names whose ids were seen are resolved before each entry that is made then
pub shown_before : (b d : Seen) (xs : Names) (list : List Placed) (h : History) → Made b list d → AllShown b xs → IsLawful h → Fits d h → (n : Kind × List ℕ) → Contains xs n → ResolvedBefore h n list
shown_before b d xs list h made all l f n has q is =
    let w = all n.0 n.1 has in
    let above = (deeds_each h b.caller b.length d.length q (subst (λ (ys : List Placed). Contains ys q) (sym (made.made h f)) is)).above in
    (w.0, w.1.stands b (itself b) (first (q.place - 1) h) (first_lawful h (q.place - 1) l) (fits_longer b h (q.place - 1) (omega (arith, above)) (made.since.extends.fits h f)))

turns_joined : (c : Admission) (h : History) (xs ys : Names) (l m : List Placed) → InTurn c h xs l → ((n : Kind × List ℕ) → Contains xs n → ResolvedBefore h n m) → InTurn c h ys m → InTurn c h (xs ++ ys) (l ++ m)
turns_joined c h _ ys _ m done early b = b
turns_joined c h _ ys _ m (then_next {kind} {name} {names} {part} {list} f r a) early b =
    subst (InTurn c h ((kind, name) ∷ (names ++ ys))) (sym (append_assoc part list m))
    (then_next f (λ d is. elim (in_either list m d is) [ inl x ↦ r d x | inr y ↦ early (kind, name) (here (kind, name) names) d y ]) (turns_joined c h names ys list m a (λ n is. early n (there (kind, name) n names is)) b))

-- the names of the ones were asked, and then those of the others
then_turns : (c : Admission) (b d : Seen) (xs ys : Names) (l m : List Placed) → Made b m d → AllShown b xs → InEach b (λ h. InTurn c h xs l) → InEach d (λ h. InTurn c h ys m) → InEach d (λ h. InTurn c h (xs ++ ys) (l ++ m))
then_turns c b d xs ys l m made all p q h lawful f = turns_joined c h xs ys l m (p h lawful (made.since.extends.fits h f)) (shown_before b d xs m h made all lawful f) (q h lawful f)

stops_later : (c : Admission) (b d : Seen) (xs ys : Names) (kind : Kind) (name : List ℕ) (l m : List Placed) → Made b m d → AllShown b xs → InEach b (λ h. InTurn c h xs l) → StopsAt c ys d kind name m → StopsAt c (xs ++ ys) d kind name (l ++ m)
stops_later c b d xs ys kind name l m made all turns s = record {
  before = xs ++ s.before;
  behind = s.behind;
  names_are = ap (λ zs. xs ++ zs) s.names_are ∙ sym (append_assoc xs s.before ((kind, name) ∷ s.behind));
  shown = all_joined d xs s.before (all_kept b d xs made.since.extends all) s.shown;
  entries = λ h lawful f. subst (λ (zs : Names). InTurn c h zs (l ++ m)) (sym (append_assoc xs s.before ((kind, name) ∷ []))) (then_turns c b d xs (s.before ++ (kind, name) ∷ []) l m made all turns s.entries h lawful f);
}

stops_before : (c : Admission) (s : Seen) (xs ys : Names) (kind : Kind) (name : List ℕ) (l : List Placed) → StopsAt c xs s kind name l → StopsAt c (xs ++ ys) s kind name l
stops_before c s xs ys kind name l p = record {
  before = p.before;
  behind = p.behind ++ ys;
  names_are = ap (λ zs. zs ++ ys) p.names_are ∙ append_assoc p.before ((kind, name) ∷ p.behind) ys;
  shown = p.shown;
  entries = p.entries;
}

behind_more : {X : Type 0} (l m front end : List X) → m ≡ front ++ end → l ++ m ≡ (l ++ front) ++ end
behind_more l m front end is = ap (λ zs. l ++ zs) is ∙ sym (append_assoc l front end)

fails_later : (c : Admission) (b d : Seen) (xs ys : Names) (l m : List Placed) (e : PutFault) → Made b m d → AllShown b xs → InEach b (λ h. InTurn c h xs l) → Fails c ys d e m → Fails c (xs ++ ys) d e (l ++ m)
fails_later c b d xs ys l m (Unknown kind name) made all turns (stops, (off, (front, last, is, look))) =
    (stops_later c b d xs ys kind name l m made all turns stops, (off, (l ++ front, last, behind_more l m front (last ∷ []) is, look)))
fails_later c b d xs ys l m (Filtered kind name) made all turns (stops, (on, off, (front, last, is, look))) =
    (stops_later c b d xs ys kind name l m made all turns stops, (on, off, (l ++ front, last, behind_more l m front (last ∷ []) is, look)))
fails_later c b d xs ys l m (Exhausted kind) made all turns (name, stops, (may, (front, read, bump, is, look, did))) =
    (name, stops_later c b d xs ys kind name l m made all turns stops, (may, (l ++ front, read, bump, behind_more l m front (read ∷ bump ∷ []) is, look, did)))
fails_later c b d xs ys l m OutOfMemory made all turns f = tt
fails_later c b d xs ys l m Stopped made all turns f = tt

fails_before : (c : Admission) (s : Seen) (xs ys : Names) (l : List Placed) (e : PutFault) → Fails c xs s e l → Fails c (xs ++ ys) s e l
fails_before c s xs ys l (Unknown kind name) (stops, was) = (stops_before c s xs ys kind name l stops, was)
fails_before c s xs ys l (Filtered kind name) (stops, was) = (stops_before c s xs ys kind name l stops, was)
fails_before c s xs ys l (Exhausted kind) (name, stops, was) = (name, stops_before c s xs ys kind name l stops, was)
fails_before c s xs ys l OutOfMemory f = tt
fails_before c s xs ys l Stopped f = tt

-- names that were asked there others
pub asked_then : {T U : Type 0} (c : Admission) (xs ys : Names) (a b d : Seen) (x : T) (r : Result U PutFault) → NamesAsked {T = T} c xs a (Ok x) b → NamesAsked {T = U} c ys b r d → NamesAsked {T = U} c (xs ++ ys) a r d
asked_then {T} {U} c xs ys a b d x r p q = record {
  list = p.list ++ q.list;
  made = made_joined a b d p.list q.list p.made q.made;
  entries = names_joined a.base.widths c xs ys p.list q.list p.entries (subst (λ (s : Store). ForNames s.widths c ys q.list) p.made.since.extends.base q.entries);
  turns = then_turns c b d xs ys p.list q.list q.made p.answered p.turns q.turns;
  answered = at r q.answered;
}
  where
    at : (r : Result U PutFault) → Answered c ys d r q.list → Answered c (xs ++ ys) d r (p.list ++ q.list)
    at (Ok y) all = all_joined d xs ys (all_kept b d xs q.made.since.extends p.answered) all
    at (Err e) f = fails_later c b d xs ys p.list q.list e q.made p.answered p.turns f

-- names of which the first failed
pub asked_failed : {T U : Type 0} (c : Admission) (xs ys : Names) (a b : Seen) (e : PutFault) → NamesAsked {T = T} c xs a (Err e) b → NamesAsked {T = U} c (xs ++ ys) a (Err e) b
asked_failed c xs ys a b e p = record {
  list = p.list;
  made = p.made;
  entries = subst (ForNames a.base.widths c (xs ++ ys)) (nothing_behind p.list) (names_joined a.base.widths c xs ys p.list [] p.entries (none_for a.base.widths c ys));
  turns = λ h l f. subst (InTurn c h (xs ++ ys)) (nothing_behind p.list) (turns_joined c h xs ys p.list [] (p.turns h l f) (λ n is. none_after h n) (none_in_turn c h ys));
  answered = fails_before c b xs ys p.list e p.answered;
}

-- nothing was asked
pub asked_nothing : (c : Admission) (s : Seen) → NamesAsked {T = Unit {0}} c [] s (Ok tt) s
asked_nothing c s = record { list = []; made = nothing_made s; entries = nil; turns = λ h l f. done; answered = shown_none s }

-- the same under another type of answer
pub asked_ok_as : {T U : Type 0} (c : Admission) (names : Names) (a b : Seen) (x : T) (y : U) → NamesAsked {T = T} c names a (Ok x) b → NamesAsked {T = U} c names a (Ok y) b
asked_ok_as c names a b x y p = record { list = p.list; made = p.made; entries = p.entries; turns = p.turns; answered = p.answered }

pub asked_err_as : {T U : Type 0} (c : Admission) (names : Names) (a b : Seen) (e : PutFault) → NamesAsked {T = T} c names a (Err e) b → NamesAsked {T = U} c names a (Err e) b
asked_err_as c names a b e p = record { list = p.list; made = p.made; entries = p.entries; turns = p.turns; answered = p.answered }

-- a fault that was passed on
pub passed_on : {T : Type 0} (P : Result T PutFault → Type 0) (e : PutFault) (r : Result T PutFault) → IsErrAnd r (λ y. y ≡ e) → P (Err e) → P r
passed_on P e r is p = let y = err_from_is_err_and r is in subst P (sym (y.1 ∙ ap (λ x. Err x) y.2)) p
