-- Reading points.
use Rattle.std.proofs.Common.{◌≡◌, ℕ, ◌+◌, List, [], ◌∷◌, ◌++◌, Result, Ok, Err, refl, sym, ap, ◌∙◌, append_assoc}
use Rattle.std.proofs.lemmas.List.{append-nil}
use Rattle.tsd_base.specs.declared.points.PointFault.{PointFault}
use Rattle.tsd_base.specs.declared.points.PointFault.TheVariants.{FewWords, Metric, Time, Value, TagForm, TagKey, TagValue, Tags, OutOfMemory}
use Rattle.tsd_base.specs.Points.{◌>>=◌, FailsPoint, tag_of, pairs_of}
use Rattle.tsd_base.specs.Tags.{Pair}

-- a fault of one part is that of the whole
pub FailsPoint-whole : {A B : Type 0} (fault : PointFault) (part : Result A PointFault) (whole : Result B PointFault)
    → ((e : PointFault) → part ≡ Err e → whole ≡ Err e) → FailsPoint fault part → FailsPoint fault whole
FailsPoint-whole OutOfMemory part whole f h = tt
FailsPoint-whole (FewWords found) part whole f h = f _ h
FailsPoint-whole (Metric fault) part whole f h = f _ h
FailsPoint-whole Time part whole f h = f _ h
FailsPoint-whole (Value fault) part whole f h = f _ h
FailsPoint-whole (TagForm index) part whole f h = f _ h
FailsPoint-whole (TagKey index fault) part whole f h = f _ h
FailsPoint-whole (TagValue index fault) part whole f h = f _ h
FailsPoint-whole (Tags fault) part whole f h = f _ h

-- the pairs that were read before, and those that are still read
abbrev pub with_front : List Pair → Result (List Pair) PointFault → Result (List Pair) PointFault
with_front front read = read >>= λ pairs. Ok (front ++ pairs)

regroup : (front : List Pair) (pair : Pair) (read : Result (List Pair) PointFault) → with_front front (read >>= λ pairs. Ok (pair ∷ pairs)) ≡ with_front (front ++ pair ∷ []) read
regroup front pair (Ok pairs) = ap (λ (ps : List Pair). Ok ps) (sym (append_assoc front (pair ∷ []) pairs))
regroup front pair (Err e) = refl

pub pairs_go_on : (front : List Pair) (index : ℕ) (word : List ℕ) (words : List (List ℕ)) (pair : Pair) (whole : Result (List Pair) PointFault)
    → tag_of index word ≡ Ok pair → with_front front (pairs_of index (word ∷ words)) ≡ whole → with_front (front ++ pair ∷ []) (pairs_of (index + 1) words) ≡ whole
unfolding pairs_of
pairs_go_on front index word words pair whole h so_far =
    sym (rw h (regroup front pair (pairs_of (index + 1) words))) ∙ so_far

pub pairs_fail : (fault : PointFault) (front : List Pair) (index : ℕ) (word : List ℕ) (words : List (List ℕ)) (whole : Result (List Pair) PointFault)
    → FailsPoint fault (tag_of index word) → with_front front (pairs_of index (word ∷ words)) ≡ whole → FailsPoint fault whole
unfolding pairs_of
pairs_fail fault front index word words whole h so_far =
    FailsPoint-whole fault (tag_of index word) whole (λ e is. sym so_far ∙ rw is refl) h

pub pairs_end : (front : List Pair) (index : ℕ) (whole : Result (List Pair) PointFault) → with_front front (pairs_of index []) ≡ whole → whole ≡ Ok front
unfolding pairs_of
pairs_end front index whole so_far = sym so_far ∙ ap (λ (ps : List Pair). Ok ps) (append-nil front)
