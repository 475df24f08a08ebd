-- The entries of calls that are made of other calls.
use Rattle.std.proofs.Common.{◌≡◌, inl, inr, ℕ, true, false, List, [], ◌∷◌, ◌++◌, refl, sym, ap, subst, ◌∙◌}
use Rattle.std.proofs.lemmas.Bool.{false≢true}
use Rattle.std.proofs.lemmas.Result.{err_from_is_err_and}
use Rattle.std.specs.Prelude.{Result, Ok, Err, IsErr, IsErrAnd, Option, None}
use Rattle.tsd_base.specs.declared.kinds.Kind.{Kind}
use Rattle.tsd_hooks.specs.declared.name_patterns.Patterns.{Patterns}
use Rattle.tsd_hooks.specs.AllowedNames.{allowed}
use Rattle.qual_codec.specs.declared.cells.Cell.{Cell}
use Rattle.cell_model.specs.declared.row.Row.{Row}
use Rattle.cell_model.specs.declared.events.Step.{Step}
use Rattle.cell_model.specs.declared.events.Step.TheVariants.{Read, Bump, Claim}
use Rattle.cell_model.specs.declared.events.Reply.{Reply}
use Rattle.cell_model.specs.declared.events.Reply.TheVariants.{Shown, BumpReply, ClaimReply}
use Rattle.cell_model.specs.declared.events.Placed.{Placed}
use Rattle.cell_model.specs.declared.answers.RowsFault.{RowsFault}
use Rattle.cell_model.specs.declared.answers.RowsFault.TheVariants as rows
use Rattle.cell_model.specs.declared.answers.Bumped.TheVariants.{Given, Full}
use Rattle.cell_model.specs.declared.answers.Claimed.{Claimed}
use Rattle.cell_model.specs.declared.answers.Claimed.TheVariants.{Done, Held}
use Rattle.cell_model.specs.KindWidths.{Widths, IsKindId, kind_bytes}
use Rattle.cell_model.specs.Store.{Store, value_among}
use Rattle.cell_model.specs.Machine.{kind_qual}
use Rattle.cell_model.specs.IdRows.{name_row, id_row}
use Rattle.cell_model.specs.Seen.{Seen, Waited, Stepped, IsPossible}
use Rattle.cell_model.specs.Deeds.{placed}
use Rattle.uid_table.specs.declared.id_answers.Assigned.{Assigned}
use Rattle.uid_table.specs.declared.id_answers.Assigned.TheVariants.{Fresh, Existing, Lost}
use Rattle.uid_table.specs.declared.id_answers.AssignFault.{AssignFault}
use Rattle.uid_table.specs.declared.id_answers.AssignFault.TheVariants as assign
use Rattle.uid_table.specs.declared.id_answers.ResolveFault.{ResolveFault}
use Rattle.uid_table.specs.IdAnswers.{resolve_fault, assign_fault}
use Rattle.uid_table.specs.IdSteps.{MadeSo, DidReverse, DidForward, Gave, OneLook, LookMade, ResolveMade, ReverseMade, ForwardMade, BindMade, GiveMade, GiveAllowedMade, GaveUp, AssignMade}
use Rattle.uid_table.specs.IdSteps.GaveUp.{before, bumped, reversed}
use Rattle.cell_laws.proofs.CallerLemmas.{given_id, wait_made, step_made, made_joined}
-- nothing was made yet
pub use Rattle.cell_laws.proofs.CallerLemmas.{nothing_made}

-- a claim under other names of its parts
pub recast : (old new : Seen) (row row' : Row) (qual qual' value value' : List ℕ) (reply reply' : Claimed) → row ≡ row' → qual ≡ qual' → value ≡ value' → reply ≡ reply'
    → Stepped old (Claim row qual value) (ClaimReply reply) new → Stepped old (Claim row' qual' value') (ClaimReply reply') new
recast old new row row' qual qual' value value' reply reply' r q v p s = subst (λ (x : Row × List ℕ × List ℕ × Claimed). Stepped old (Claim x.0 x.1 x.2) (ClaimReply x.3) new) (λ i. (r i, q i, v i, p i)) s

-- where a step wasn't made, nothing was
pub none_made : {T E : Type 0} (Q : Result T E → List Placed → Type 0) (old new : Seen) (r : Result T E) → IsErr r → ((e : E) → Q (Err e) []) → Waited old new → (IsPossible old → IsPossible new) → MadeSo old (Q r) new
none_made Q old new (Ok x) is q w lives = absurd (false≢true is)
none_made Q old new (Err e) is q w lives = ([], wait_made old new w lives, q e)

-- a read of the name's row
pub look_made : (old new : Seen) (kind : Kind) (row : Row) (cells : List Cell) (shown : Option (List ℕ)) → Stepped old (Read row) (Shown cells) new → IsPossible new → row ≡ name_row row.bytes
    → value_among cells (kind_qual kind) ≡ shown → MadeSo old (OneLook kind row.bytes shown) new
look_made old new kind row cells shown step p is shows =
    (_, step_made old new _ _ (subst (λ (r : Row). Stepped old (Read r) (Shown cells) new) is step) p, (_, refl, record { cells = cells; did = (refl, refl); shows = shows }))

-- the same of another name for its row's bytes
pub renamed : (Q : List ℕ → List Placed → Type 0) (old new : Seen) (row : Row) (name : List ℕ) → row ≡ name_row name → MadeSo old (Q row.bytes) new → MadeSo old (Q name) new
renamed Q old new row name is m = subst (λ (r : Row). MadeSo old (Q r.bytes) new) is m

-- what the cells show at a qualifier, under other names of both
pub shown_at : (cells cells' : List Cell) (qual qual' : List ℕ) (shown : Option (List ℕ)) → cells ≡ cells' → qual ≡ qual' → value_among cells qual ≡ shown → value_among cells' qual' ≡ shown
shown_at cells cells' qual qual' shown c q is = subst (λ (x : List Cell × List ℕ). value_among x.0 x.1 ≡ shown) (λ i. (c i, q i)) is

-- what is made with the widths of a base is made with those of the same one
pub made_with : (a b c : Seen) (Q : Widths → List Placed → Type 0) → b.base ≡ a.base → MadeSo b (Q b.base.widths) c → MadeSo b (Q a.base.widths) c
made_with a b c Q e m = subst (λ (s : Store). MadeSo b (Q s.widths) c) e m

-- the claim of the id
pub reverse_made : (old new : Seen) (kind : Kind) (name : List ℕ) (id : ℕ) → Stepped old (Claim (id_row old.base.widths kind id) (kind_qual kind) name) (ClaimReply Done) new → IsPossible new
    → MadeSo old (ReverseMade old.base.widths kind name id (Ok tt)) new
reverse_made old new kind name id step p = (_, step_made old new _ _ step p, (_, refl, (refl, refl)))

pub bumped_is_id : (a b c : Seen) (kind : Kind) (id : ℕ) (step : Step) (reply : Reply) → Stepped a (Bump kind) (BumpReply (Given id)) b → Stepped b step reply c → IsPossible c → IsKindId c.base.widths kind id
bumped_is_id a b c kind id step reply bump next p = given_id c p.history b.length a.caller kind id p.lawful p.fits (next.kept _ _ bump.stepped)

-- the claim of the name
pub forward_done : (old new : Seen) (kind : Kind) (name : List ℕ) (id : ℕ) → Stepped old (Claim (name_row name) (kind_qual kind) (kind_bytes old.base.widths kind id)) (ClaimReply Done) new → IsPossible new
    → MadeSo old (ForwardMade old.base.widths kind name id (Ok (Fresh id))) new
forward_done old new kind name id step p = (_, step_made old new _ _ step p, (refl, (_, refl, (refl, refl))))

pub forward_held : (old new : Seen) (kind : Kind) (name : List ℕ) (id other : ℕ) → Stepped old (Claim (name_row name) (kind_qual kind) (kind_bytes old.base.widths kind id)) (ClaimReply (Held (kind_bytes old.base.widths kind other))) new → IsPossible new
    → MadeSo old (ForwardMade old.base.widths kind name id (Ok (Lost id other))) new
forward_held old new kind name id other step p = (_, step_made old new _ _ step p, (refl, (_, refl, (refl, refl))))

-- both claims
bind_joined : (w : Widths) (a b c : Seen) (kind : Kind) (name : List ℕ) (id : ℕ) (r : Result Assigned RowsFault) → MadeSo a (ReverseMade w kind name id (Ok tt)) b → MadeSo b (ForwardMade w kind name id r) c
    → MadeSo a (BindMade w kind name id r) c
bind_joined w a b c kind name id (Ok x) (xs, m, (d, is, did)) (ys, n, q) = (xs ++ ys, made_joined a b c xs ys m n, (d, ys, ap (λ zs. zs ++ ys) is, did, q))
bind_joined w a b c kind name id (Err e) (xs, m, (d, is, did)) (ys, n, q) = (xs ++ ys, made_joined a b c xs ys m n, inr (d, ys, ap (λ zs. zs ++ ys) is, did, q))

pub bind_made : (a b c : Seen) (kind : Kind) (name : List ℕ) (id : ℕ) (r : Result Assigned RowsFault) → MadeSo a (ReverseMade a.base.widths kind name id (Ok tt)) b → MadeSo b (ForwardMade b.base.widths kind name id r) c
    → MadeSo a (BindMade a.base.widths kind name id r) c
bind_made a b c kind name id r m n = bind_joined a.base.widths a b c kind name id r m (made_with a b c (λ w. ForwardMade w kind name id r) m.1.since.extends.base n)

pub bind_stopped : (a b : Seen) (kind : Kind) (name : List ℕ) (id : ℕ) (e : RowsFault) (r : Result Assigned RowsFault) → IsErr r → MadeSo a (ReverseMade a.base.widths kind name id (Err e)) b → MadeSo a (BindMade a.base.widths kind name id r) b
bind_stopped a b kind name id e (Ok x) is (xs, m, q) = absurd (false≢true is)
bind_stopped a b kind name id e (Err f) is (xs, m, q) = (xs, m, inl q)

-- an answer of the claims as one of the giving
abbrev pub as_given : Result Assigned RowsFault → Result Assigned AssignFault
as_given (Ok x) = Ok x
as_given (Err e) = Err (assign_fault e)

-- the entry of a bump that gave an id
abbrev the_bump : Seen → Seen → Kind → ℕ → Placed
the_bump a b kind id = placed b.length (record { caller = a.caller; step = Bump kind; reply = BumpReply (Given id) })

-- a fault of the rows that was passed on
pub passed_on : {T : Type 0} (P : Result T AssignFault → Type 0) (e : RowsFault) (r : Result T AssignFault) → IsErrAnd r (λ y. y ≡ assign_fault e) → P (Err (assign_fault e)) → P r
passed_on P e r is p = let y = err_from_is_err_and r is in subst P (sym (y.1 ∙ ap (λ x. Err x) y.2)) p

pub resolve_passed_on : {T : Type 0} (P : Result T ResolveFault → Type 0) (e : RowsFault) (r : Result T ResolveFault) → IsErrAnd r (λ y. y ≡ resolve_fault e) → P (Err (resolve_fault e)) → P r
resolve_passed_on P e r is p = let y = err_from_is_err_and r is in subst P (sym (y.1 ∙ ap (λ x. Err x) y.2)) p

-- a bump, and then both claims
give_joined : (w : Widths) (a b c : Seen) (kind : Kind) (name : List ℕ) (id : ℕ) (r : Result Assigned RowsFault) → Stepped a (Bump kind) (BumpReply (Given id)) b → IsPossible b → MadeSo b (BindMade w kind name id r) c
    → MadeSo a (GiveMade w kind name (as_given r)) c
give_joined w a b c kind name id r bump p (ys, n, q) = (_, made_joined a b c _ ys (step_made a b _ _ bump p) n, at r q)
  where
    all : (x : ℕ) (reply : Claimed) (d f : Placed) (rest : List Placed) → x ≡ id → ys ≡ d ∷ rest → DidReverse w d kind name id → rest ≡ f ∷ [] → DidForward w f kind name id reply → Gave w kind name x reply (the_bump a b kind id ∷ ys)
    all x reply d f rest same is did last done = subst (λ n. Gave w kind name n reply (the_bump a b kind id ∷ ys)) (sym same) (record {
      bump = the_bump a b kind id;
      reverse = d;
      forward = f;
      list_is = ap (λ zs. the_bump a b kind id ∷ zs) (is ∙ ap (λ zs. d ∷ zs) last);
      bumped = (refl, refl);
      reversed = did;
      forwarded = done;
    })

    some : (e : RowsFault) → BindMade w kind name id (Err e) ys → GaveUp w kind name (the_bump a b kind id ∷ ys)
    some e (inl none) = subst (λ zs. GaveUp w kind name (the_bump a b kind id ∷ zs)) (sym none) (bumped id (refl, refl))
    some e (inr (d, rest, is, did, none)) = subst (λ zs. GaveUp w kind name (the_bump a b kind id ∷ zs)) (sym (is ∙ ap (λ zs. d ∷ zs) none)) (reversed id (refl, refl) did)

    at : (r : Result Assigned RowsFault) → BindMade w kind name id r ys → GiveMade w kind name (as_given r) (the_bump a b kind id ∷ ys)
    at (Ok (Fresh x)) (d, rest, is, did, (same, (f, last, done))) = all x Done d f rest same is did last done
    at (Ok (Existing x)) (d, rest, is, did, no_such) = absurd no_such
    at (Ok (Lost wasted x)) (d, rest, is, did, (same, (f, last, done))) = all wasted (Held (kind_bytes w kind x)) d f rest same is did last done
    at (Err rows.OutOfMemory) q = some rows.OutOfMemory q
    at (Err rows.Stopped) q = some rows.Stopped q

pub give_made : (a b c : Seen) (kind : Kind) (name : List ℕ) (id : ℕ) (r : Result Assigned RowsFault) → Stepped a (Bump kind) (BumpReply (Given id)) b → IsPossible b → MadeSo b (BindMade b.base.widths kind name id r) c
    → MadeSo a (GiveMade a.base.widths kind name (as_given r)) c
give_made a b c kind name id r bump p n = give_joined a.base.widths a b c kind name id r bump p (made_with a b c (λ w. BindMade w kind name id r) bump.base n)

pub give_full : (a b : Seen) (kind : Kind) (name : List ℕ) → Stepped a (Bump kind) (BumpReply Full) b → IsPossible b → MadeSo a (GiveMade a.base.widths kind name (Err (assign.Exhausted kind))) b
give_full a b kind name bump p = (_, step_made a b _ _ bump p, (refl, (_, refl, (refl, refl))))

pub give_stopped : (a b : Seen) (kind : Kind) (name : List ℕ) → Waited a b → (IsPossible a → IsPossible b) → MadeSo a (GiveMade a.base.widths kind name (Err assign.Stopped)) b
give_stopped a b kind name w lives = ([], wait_made a b w lives, before)

-- the giving of an id to a name that is allowed
pub given_allowed : (a b : Seen) (patterns : Patterns) (kind : Kind) (name : List ℕ) (r : Result Assigned AssignFault) → allowed patterns kind name ≡ true → MadeSo a (GiveMade a.base.widths kind name r) b → MadeSo a (GiveAllowedMade a.base.widths patterns kind name r) b
given_allowed a b patterns kind name (Ok answer) is (xs, m, q) = (xs, m, (is, q))
given_allowed a b patterns kind name (Err (assign.Filtered k)) is (xs, m, q) = absurd q
given_allowed a b patterns kind name (Err (assign.Exhausted k)) is (xs, m, q) = (xs, m, (is, q))
given_allowed a b patterns kind name (Err assign.OutOfMemory) is (xs, m, q) = (xs, m, (is, q))
given_allowed a b patterns kind name (Err assign.Stopped) is (xs, m, q) = (xs, m, (is, q))

-- nothing is made for a name that isn't
pub filtered : (s : Seen) (patterns : Patterns) (kind : Kind) (name : List ℕ) → allowed patterns kind name ≡ false → MadeSo s (GiveAllowedMade s.base.widths patterns kind name (Err (assign.Filtered kind))) s
filtered s patterns kind name not_so = ([], nothing_made s, (refl, not_so, refl))

-- a look that found no cell, and then what is made for a name that has no id
assign_joined : (w : Widths) (a b c : Seen) (patterns : Patterns) (kind : Kind) (name : List ℕ) (r : Result Assigned AssignFault) → MadeSo a (LookMade w kind name (Ok None)) b → MadeSo b (GiveAllowedMade w patterns kind name r) c
    → MadeSo a (AssignMade w patterns kind name r) c
assign_joined w a b c patterns kind name (Ok (Fresh id)) (xs, m, (d, is, did)) (ys, n, q) = (xs ++ ys, made_joined a b c xs ys m n, (d, ys, ap (λ zs. zs ++ ys) is, did, q))
assign_joined w a b c patterns kind name (Ok (Existing id)) (xs, m, (d, is, did)) (ys, n, q) = absurd q.1
assign_joined w a b c patterns kind name (Ok (Lost wasted id)) (xs, m, (d, is, did)) (ys, n, q) = (xs ++ ys, made_joined a b c xs ys m n, (d, ys, ap (λ zs. zs ++ ys) is, did, q))
assign_joined w a b c patterns kind name (Err (assign.Filtered k)) (xs, m, (d, is, did)) (ys, n, q) = (xs ++ ys, made_joined a b c xs ys m n, (d, ys, ap (λ zs. zs ++ ys) is, did, q))
assign_joined w a b c patterns kind name (Err (assign.Exhausted k)) (xs, m, (d, is, did)) (ys, n, q) = (xs ++ ys, made_joined a b c xs ys m n, (d, ys, ap (λ zs. zs ++ ys) is, did, q))
assign_joined w a b c patterns kind name (Err assign.OutOfMemory) (xs, m, (d, is, did)) (ys, n, q) = (xs ++ ys, made_joined a b c xs ys m n, inr (d, ys, ap (λ zs. zs ++ ys) is, did, q))
assign_joined w a b c patterns kind name (Err assign.Stopped) (xs, m, (d, is, did)) (ys, n, q) = (xs ++ ys, made_joined a b c xs ys m n, inr (d, ys, ap (λ zs. zs ++ ys) is, did, q))

pub assign_made : (a b c : Seen) (patterns : Patterns) (kind : Kind) (name : List ℕ) (r : Result Assigned AssignFault) → MadeSo a (LookMade a.base.widths kind name (Ok None)) b → MadeSo b (GiveAllowedMade b.base.widths patterns kind name r) c
    → MadeSo a (AssignMade a.base.widths patterns kind name r) c
assign_made a b c patterns kind name r m n = assign_joined a.base.widths a b c patterns kind name r m (made_with a b c (λ w. GiveAllowedMade w patterns kind name r) m.1.since.extends.base n)

-- a look that wasn't made
pub assign_stopped : (a b : Seen) (patterns : Patterns) (kind : Kind) (name : List ℕ) (e : RowsFault) → MadeSo a (LookMade a.base.widths kind name (Err e)) b → MadeSo a (AssignMade a.base.widths patterns kind name (Err (assign_fault e))) b
assign_stopped a b patterns kind name rows.OutOfMemory (xs, m, q) = (xs, m, inl q)
assign_stopped a b patterns kind name rows.Stopped (xs, m, q) = (xs, m, inl q)

pub resolve_stopped : (a b : Seen) (kind : Kind) (name : List ℕ) (e : RowsFault) → MadeSo a (LookMade a.base.widths kind name (Err e)) b → MadeSo a (ResolveMade a.base.widths kind name (Err (resolve_fault e))) b
resolve_stopped a b kind name rows.OutOfMemory m = m
resolve_stopped a b kind name rows.Stopped m = m
