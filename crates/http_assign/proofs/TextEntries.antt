-- The entries of one text.
use Rattle.std.proofs.Common.{◌≡◌, ◌⊎◌, inl, inr, ℕ, Bool, true, false, cond, nat_lt, List, [], ◌∷◌, length, position, refl, sym, ap, subst, ◌∙◌, Option, Some, None, Result, Ok, Err}
use Rattle.std.specs.Prelude.{Contains}
use Rattle.list_lemmas.proofs.ListMembers.{here, not_in, split, there}
use Rattle.tsd_base.specs.declared.kinds.Kind.{Kind}
use Rattle.tsd_base.specs.declared.kinds.Kind.TheVariants.{Metric, TagKey, TagValue}
use Rattle.tsd_base.specs.declared.names.NameFault.{NameFault}
use Rattle.tsd_base.specs.declared.names.NameFault.TheVariants.{TooLong}
use Rattle.tsd_base.specs.Names.{name_of, is_bad_byte, without_bad_byte}
use Rattle.tsd_hooks.specs.declared.name_patterns.Patterns.{Patterns}
use Rattle.tsd_hooks.specs.AllowedNames.{allowed}
use Rattle.cell_model.specs.declared.answers.Claimed.{Claimed}
use Rattle.cell_model.specs.declared.answers.Claimed.TheVariants.{Done, Held}
use Rattle.cell_model.specs.declared.answers.Bumped.TheVariants.{Full, Given}
use Rattle.cell_model.specs.declared.events.Placed.{Placed}
use Rattle.cell_model.specs.declared.events.Step.{Step}
use Rattle.cell_model.specs.declared.events.Step.TheVariants.{Bump, Read}
use Rattle.cell_model.specs.declared.events.Reply.{Reply}
use Rattle.cell_model.specs.declared.events.Reply.TheVariants.{BumpReply}
use Rattle.cell_model.specs.declared.row.Row.{Row}
use Rattle.cell_model.specs.KindWidths.{Widths, kind_bytes}
use Rattle.cell_model.specs.History.{History, store_after}
use Rattle.cell_model.specs.IdRows.{NameOf, name_row}
use Rattle.uid_table.specs.declared.id_answers.Assigned.{Assigned}
use Rattle.uid_table.specs.declared.id_answers.Assigned.TheVariants.{Fresh, Existing, Lost}
use Rattle.uid_table.specs.declared.id_answers.AssignFault.{AssignFault}
use Rattle.uid_table.specs.declared.id_answers.AssignFault.TheVariants.{Filtered, Exhausted, OutOfMemory, Stopped}
use Rattle.uid_table.specs.IdSteps.{AfterLook, AssignMade, DidLook, Gave, GaveUp, LookedOrKept, NotAllowed, WasFull}
use Rattle.uid_table.specs.IdSteps.GaveUp.{before, bumped, reversed}
use Rattle.point_put.specs.Configs.{makes}
use Rattle.point_put.specs.Entries.{ForName}
use Rattle.point_put.specs.Entries.ForName.{none, look, full, bump, reverse, forward}
use Rattle.http_assign.specs.AssignEntries.{FewEntries, HasGiven, admits_all}
use Rattle.http_assign.specs.AssignLists.{AnswerTold, IdTold, ReadAssigned, TextAssigned}

made : (patterns : Patterns) (kind : Kind) → makes (admits_all patterns).config kind ≡ true
made patterns Metric = refl
made patterns TagKey = refl
made patterns TagValue = refl

-- an id that is told is none of an error's texts
no_id : {P : Type 0} (text : List ℕ) (id : ℕ) (outcome : IdTold) → outcome ≡ Err text → outcome ≡ Ok id → P
no_id text id outcome e o = let no : ◌≡◌ {A = IdTold} (Err text) (Ok id) = sym e ∙ o in absurd cc

-- the entries for a name that is given an id where the patterns allow it
abbrev Entries : Widths → Patterns → Kind → List ℕ → List Placed → Type 0
Entries w patterns kind name own = ForName w (admits_all patterns) kind name own

looked : (w : Widths) (patterns : Patterns) (kind : Kind) (name : List ℕ) (id : ℕ) (own : List Placed) → LookedOrKept w kind name id own → Entries w patterns kind name own
looked w patterns kind name id own (inl is) = subst (Entries w patterns kind name) (sym is) none
looked w patterns kind name id own (inr x) = subst (Entries w patterns kind name) (sym x.1) (look (Some (kind_bytes w kind id)) x.2)

-- a read that found no cell, and what comes behind it
behind : (w : Widths) (patterns : Patterns) (kind : Kind) (name : List ℕ) (P : List Placed → Type 0) (own : List Placed) → ((r : Placed) (rest : List Placed) → DidLook r kind name None → P rest → Entries w patterns kind name (r ∷ rest)) → AfterLook kind name P own
    → Entries w patterns kind name own
behind w patterns kind name P own f x = subst (Entries w patterns kind name) (sym x.2) (f x.0 x.1 x.3 x.4)

-- an allowed name and what its giving made
abbrev Allows : Patterns → Kind → List ℕ → (List Placed → Type 0) → List Placed → Type 0
Allows patterns kind name P rest = (allowed patterns kind name ≡ true) × P rest

gave : (w : Widths) (patterns : Patterns) (kind : Kind) (name : List ℕ) (id : ℕ) (reply : Claimed) (r : Placed) (rest : List Placed) → DidLook r kind name None → Allows patterns kind name (Gave w kind name id reply) rest → Entries w patterns kind name (r ∷ rest)
gave w patterns kind name id reply r rest found (allows, g) = subst (λ (l : List Placed). Entries w patterns kind name (r ∷ l)) (sym g.list_is) (forward id reply (made patterns kind, allows) found g.bumped g.reversed g.forwarded)

abbrev FoundFull : Kind → Kind → List Placed → Type 0
FoundFull kind k rest = (k ≡ kind) × WasFull kind rest

was_full : (w : Widths) (patterns : Patterns) (kind k : Kind) (name : List ℕ) (r : Placed) (rest : List Placed) → DidLook r kind name None → Allows patterns kind name (FoundFull kind k) rest → Entries w patterns kind name (r ∷ rest)
was_full w patterns kind k name r rest found (allows, (same, (b, is, did))) = subst (λ (l : List Placed). Entries w patterns kind name (r ∷ l)) (sym is) (full (made patterns kind, allows) found did)

filtered : (w : Widths) (patterns : Patterns) (kind k : Kind) (name : List ℕ) (r : Placed) (rest : List Placed) → DidLook r kind name None → NotAllowed patterns kind name k rest → Entries w patterns kind name (r ∷ rest)
filtered w patterns kind k name r rest found x = subst (λ (l : List Placed). Entries w patterns kind name (r ∷ l)) (sym x.2) (look None found)

up_to : (w : Widths) (patterns : Patterns) (kind : Kind) (name : List ℕ) (r : Placed) (rest : List Placed) → allowed patterns kind name ≡ true → DidLook r kind name None → GaveUp w kind name rest → Entries w patterns kind name (r ∷ rest)
up_to w patterns kind name r rest allows found before = look None found
up_to w patterns kind name r rest allows found (bumped id b) = bump id (made patterns kind, allows) found b
up_to w patterns kind name r rest allows found (reversed id b n) = reverse id (made patterns kind, allows) found b n

gave_up : (w : Widths) (patterns : Patterns) (kind : Kind) (name : List ℕ) (r : Placed) (rest : List Placed) → DidLook r kind name None → Allows patterns kind name (GaveUp w kind name) rest → Entries w patterns kind name (r ∷ rest)
gave_up w patterns kind name r rest found (allows, g) = up_to w patterns kind name r rest allows found g

gave_id : (w : Widths) (patterns : Patterns) (kind : Kind) (name : List ℕ) (id : ℕ) (reply : Claimed) (own : List Placed) → AfterLook kind name (Allows patterns kind name (Gave w kind name id reply)) own → HasGiven kind own
gave_id w patterns kind name id reply own (r, rest, is, found, (allows, g)) =
    let all : own ≡ r ∷ g.bump ∷ g.reverse ∷ g.forward ∷ [] = is ∙ ap (λ (later : List Placed). r ∷ later) g.list_is in
    (g.bump, id, subst (λ (l : List Placed). Contains l g.bump) (sym all) (there r g.bump (g.bump ∷ g.reverse ∷ g.forward ∷ []) (here g.bump (g.reverse ∷ g.forward ∷ []))), g.bumped)

if_begun : (w : Widths) (patterns : Patterns) (kind : Kind) (name : List ℕ) (own : List Placed) → (own ≡ []) ⊎ AfterLook kind name (Allows patterns kind name (GaveUp w kind name)) own → Entries w patterns kind name own
if_begun w patterns kind name own (inl is) = subst (Entries w patterns kind name) (sym is) none
if_begun w patterns kind name own (inr x) = behind w patterns kind name (Allows patterns kind name (GaveUp w kind name)) own (gave_up w patterns kind name) x

name_entries : (w : Widths) (patterns : Patterns) (kind : Kind) (name : List ℕ) (answer : Result Assigned AssignFault) (own : List Placed) → AssignMade w patterns kind name answer own → Entries w patterns kind name own
name_entries w patterns kind name (Ok (Fresh id)) own m = behind w patterns kind name (Allows patterns kind name (Gave w kind name id Done)) own (gave w patterns kind name id Done) m
name_entries w patterns kind name (Ok (Existing id)) own m = looked w patterns kind name id own m
name_entries w patterns kind name (Ok (Lost wasted id)) own m = behind w patterns kind name (Allows patterns kind name (Gave w kind name wasted (Held (kind_bytes w kind id)))) own (gave w patterns kind name wasted (Held (kind_bytes w kind id))) m
name_entries w patterns kind name (Err (Filtered k)) own m = behind w patterns kind name (NotAllowed patterns kind name k) own (filtered w patterns kind k name) m
name_entries w patterns kind name (Err (Exhausted k)) own m = behind w patterns kind name (Allows patterns kind name (FoundFull kind k)) own (was_full w patterns kind k name) m
name_entries w patterns kind name (Err OutOfMemory) own m = if_begun w patterns kind name own m
name_entries w patterns kind name (Err Stopped) own m = if_begun w patterns kind name own m

id_given : (w : Widths) (patterns : Patterns) (kind : Kind) (name : List ℕ) (h : History) (answer : Result Assigned AssignFault) (own : List Placed) (outcome : IdTold) → AssignMade w patterns kind name answer own → AnswerTold (kind, name) h answer outcome
    → (id : ℕ) → outcome ≡ Ok id → HasGiven kind own
id_given w patterns kind name h (Ok (Fresh id)) own outcome m t i is = gave_id w patterns kind name id Done own m
id_given w patterns kind name h (Ok (Existing id)) own outcome m t i is = no_id _ i outcome t.0 is
id_given w patterns kind name h (Ok (Lost wasted id)) own outcome m t i is = gave_id w patterns kind name wasted (Held (kind_bytes w kind id)) own m
id_given w patterns kind name h (Err (Filtered k)) own outcome m t i is = no_id _ i outcome t is
id_given w patterns kind name h (Err (Exhausted k)) own outcome m t i is = no_id _ i outcome t is
id_given w patterns kind name h (Err OutOfMemory) own outcome m t i is = absurd t
id_given w patterns kind name h (Err Stopped) own outcome m t i is = absurd t

-- ---- no bump gave an id

was_read : (d : Placed) (row : Row) (kind : Kind) → d.entry.step ≡ Read row → d.entry.step ≡ Bump kind → ⊥
was_read d row kind a b = let no : ◌≡◌ {A = Step} (Read row) (Bump kind) = sym a ∙ b in absurd cc

found_full : (d : Placed) (id : ℕ) → d.entry.reply ≡ BumpReply Full → d.entry.reply ≡ BumpReply (Given id) → ⊥
found_full d id a b = let no : ◌≡◌ {A = Reply} (BumpReply Full) (BumpReply (Given id)) = sym a ∙ b in absurd cc

in_one : (kind : Kind) (name : List ℕ) (shown : Option (List ℕ)) (r : Placed) → DidLook r kind name shown → HasGiven kind (r ∷ []) → ⊥
in_one kind name shown r l g = at (split r g.0 [] g.2)
  where
    at : (r ≡ g.0) ⊎ Contains [] g.0 → ⊥
    at (inl same) = was_read g.0 (name_row name) kind (subst (λ (d : Placed). d.entry.step ≡ Read (name_row name)) same l.did.0) g.3.0
    at (inr gone) = not_in g.0 gone

in_looked : (w : Widths) (kind : Kind) (name : List ℕ) (id : ℕ) (own : List Placed) → LookedOrKept w kind name id own → HasGiven kind own → ⊥
in_looked w kind name id own (inl is) g = not_in g.0 (subst (λ (l : List Placed). Contains l g.0) is g.2)
in_looked w kind name id own (inr x) g = in_one kind name (Some (kind_bytes w kind id)) x.0 x.2 (subst (HasGiven kind) x.1 g)

in_full : (patterns : Patterns) (kind k : Kind) (name : List ℕ) (own : List Placed) → AfterLook kind name (Allows patterns kind name (FoundFull kind k)) own → HasGiven kind own → ⊥
in_full patterns kind k name own (r, rest, is, found, (allows, (same_kind, (b, behind_is, did)))) g = at (split r g.0 (b ∷ []) (subst (λ (l : List Placed). Contains l g.0) (is ∙ ap (λ (later : List Placed). r ∷ later) behind_is) g.2))
  where
    at' : (b ≡ g.0) ⊎ Contains [] g.0 → ⊥
    at' (inl same) = found_full g.0 g.1 (subst (λ (d : Placed). d.entry.reply ≡ BumpReply Full) same did.1) g.3.1
    at' (inr gone) = not_in g.0 gone

    at : (r ≡ g.0) ⊎ Contains (b ∷ []) g.0 → ⊥
    at (inl same) = was_read g.0 (name_row name) kind (subst (λ (d : Placed). d.entry.step ≡ Read (name_row name)) same found.did.0) g.3.0
    at (inr more) = at' (split b g.0 [] more)

in_filtered : (patterns : Patterns) (kind k : Kind) (name : List ℕ) (own : List Placed) → AfterLook kind name (NotAllowed patterns kind name k) own → HasGiven kind own → ⊥
in_filtered patterns kind k name own x g = in_one kind name None x.0 x.3 (subst (HasGiven kind) (x.2 ∙ ap (λ (rest : List Placed). x.0 ∷ rest) x.4.2) g)

given_told : (w : Widths) (patterns : Patterns) (kind : Kind) (name : List ℕ) (h : History) (answer : Result Assigned AssignFault) (own : List Placed) (outcome : IdTold) → AssignMade w patterns kind name answer own → AnswerTold (kind, name) h answer outcome
    → HasGiven kind own → (id : ℕ) × (outcome ≡ Ok id)
given_told w patterns kind name h (Ok (Fresh id)) own outcome m t g = (id, t.0)
given_told w patterns kind name h (Ok (Existing id)) own outcome m t g = absurd (in_looked w kind name id own m g)
given_told w patterns kind name h (Ok (Lost wasted id)) own outcome m t g = (id, t.0)
given_told w patterns kind name h (Err (Filtered k)) own outcome m t g = absurd (in_filtered patterns kind k name own m g)
given_told w patterns kind name h (Err (Exhausted k)) own outcome m t g = absurd (in_full patterns kind k name own m g)
given_told w patterns kind name h (Err OutOfMemory) own outcome m t g = absurd t
given_told w patterns kind name h (Err Stopped) own outcome m t g = absurd t

read_entries : (patterns : Patterns) (kind : Kind) (text : List ℕ) (read : Result (List ℕ) NameFault) (h : History) (own : List Placed) (outcome : IdTold) → ((name : List ℕ) → read ≡ Ok name → name ≡ text) → ReadAssigned patterns kind read h own outcome
    → FewEntries (store_after h).widths patterns (kind, text) own outcome
read_entries patterns kind text (Ok name) h own outcome same x =
    subst (λ (n : List ℕ). FewEntries (store_after h).widths patterns (kind, n) own outcome) (same name refl) (record { entries = name_entries (store_after h).widths patterns kind name x.0 own x.1; given = (λ told. id_given (store_after h).widths patterns kind name h x.0 own outcome x.1 x.2 told.0 told.1, given_told (store_after h).widths patterns kind name h x.0 own outcome x.1 x.2) })
read_entries patterns kind text (Err fault) h own outcome same x =
    record { entries = subst (Entries (store_after h).widths patterns kind text) (sym x.0) none; given = (λ told. no_id _ told.0 outcome x.1 told.1, λ g. absurd (not_in g.0 (subst (λ (l : List Placed). Contains l g.0) x.0 g.2))) }

-- ---- a name that was read is its text

by_parts : (bytes name : List ℕ) (long : Bool) (bad : Option ℕ) → cond long (Err (TooLong (length bytes))) (without_bad_byte bytes bad) ≡ Ok name → name ≡ bytes
by_parts bytes name true bad e = absurd cc
by_parts bytes name false (Some at) e = absurd cc
by_parts bytes name false None e = let is : bytes ≡ name = cc in sym is

itself : (text name : List ℕ) → name_of text ≡ Ok name → name ≡ text
unfolding name_of
itself [] name e = absurd cc
itself (b ∷ bytes) name e = by_parts (b ∷ bytes) name (nat_lt 255 (length (b ∷ bytes))) (position is_bad_byte (b ∷ bytes)) e

pub few_entries : (patterns : Patterns) (text : NameOf) (h : History) (own : List Placed) (outcome : IdTold) → TextAssigned patterns text h own outcome → FewEntries (store_after h).widths patterns text own outcome
few_entries patterns text h own outcome x = read_entries patterns text.0 text.1 (name_of text.1) h own outcome (itself text.1) x
