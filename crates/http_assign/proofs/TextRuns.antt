-- One text after the other.
use Rattle.std.proofs.Common.{◌≡◌, ℕ, ◌≤◌, List, [], ◌∷◌, ◌++◌, refl, sym, ap, subst, ◌∙◌, append-nil, append_assoc, arith, Some, Result, Ok, Err, IfOk, IfErr, OnErr, inl}
use Rattle.tsd_base.specs.declared.kinds.Kind.{Kind}
use Rattle.tsd_base.specs.declared.names.NameFault.{NameFault}
use Rattle.tsd_base.specs.declared.names.NameFault.TheVariants as names
use Rattle.tsd_base.specs.Faults.{name_fault_text}
use Rattle.tsd_base.specs.Names.{name_of, FailsName}
use Rattle.tsd_hooks.specs.declared.name_patterns.Patterns.{Patterns}
use Rattle.cell_model.specs.declared.answers.RowsFault.{RowsFault}
use Rattle.cell_model.specs.declared.answers.RowsFault.TheVariants as rows
use Rattle.cell_model.specs.declared.events.Placed.{Placed}
use Rattle.cell_model.specs.KindWidths.{Widths}
use Rattle.cell_model.specs.Store.{Store}
use Rattle.cell_model.specs.History.{History, first, store_after}
use Rattle.cell_model.specs.IdRows.{NameOf, id_of}
use Rattle.cell_model.specs.Seen.{Seen, Fits, InEach}
use Rattle.cell_model.specs.Stops.{RoseIf, is_stop}
use Rattle.cell_model.specs.Deeds.{deeds, Extends, Made, MadeSo, Since}
use Rattle.cell_laws.proofs.CallerLemmas.{extends_joined, first_fits, first_lawful, itself, made_joined, nothing_made, seen_carry}
use Rattle.uid_table.specs.declared.id_answers.Assigned.{Assigned}
use Rattle.uid_table.specs.declared.id_answers.Assigned.TheVariants.{Fresh, Existing, Lost}
use Rattle.uid_table.specs.declared.id_answers.AssignFault.{AssignFault}
use Rattle.uid_table.specs.declared.id_answers.AssignFault.TheVariants.{Filtered, Exhausted, OutOfMemory, Stopped}
use Rattle.uid_table.specs.IdAnswers as answers
use Rattle.uid_table.specs.IdSteps.{AssignMade}
use Rattle.uid_table.specs.Shown.{HasShown}
use Rattle.http_assign.specs.AssignLists.{AnswerTold, AssignBegun, FirstBegun, IdTold, Ran, ReadAssigned, ReadBegun, already_text}
use Rattle.http_assign.specs.AssignLists.Ran.{start, then_asked}
use Rattle.http_assign.specs.AssignTexts.{EndsEarly, GoesOn, IsBadName, MadeSome, NameBegun, NameSays, SoFar, Tells, TextBegun, TextSays}

-- ---- entries

pub made_none : (s : Seen) → MadeSome s s
made_none s = ([], nothing_made s)

pub made_more : (a b c : Seen) → MadeSome a b → MadeSome b c → MadeSome a c
made_more a b c x y = (x.0 ++ y.0, made_joined a b c x.0 y.0 x.1 y.1)

-- ---- one name

-- an id that was shown is the name's in each history that fits later, up to what is seen then
stands : (kind : Kind) (name : List ℕ) (id : ℕ) (s : Seen) → HasShown s kind name id → (later : Seen) → Extends s later → InEach later (λ h. id_of (first later.length h) kind name ≡ Some id)
stands kind name id s shown later ext h l f = shown.stands later ext (first later.length h) (first_lawful h later.length l) (first_fits later h f)

-- what holds with the widths that were seen first holds with those of each history that fits later
with_later : (old later : Seen) (h : History) (P : Widths → Type 0) → later.base ≡ old.base → Fits later h → P old.base.widths → P (store_after (first later.length h)).widths
with_later old later h P same f x = seen_carry (first_fits later h f) P (subst (λ (b : Store). P b.widths) (sym same) x)

told_so : (kind : Kind) (name : List ℕ) (s : Seen) (a : Assigned) (outcome : IdTold) → HasShown s kind name (answers.answered_id a) → Tells s.base.widths kind name (Ok a) outcome
    → (later : Seen) → Extends s later → InEach later (λ h. AnswerTold (kind, name) (first later.length h) (Ok a) outcome)
told_so kind name s (Fresh id) outcome shown tells later ext h l f = (tells, stands kind name id s shown later ext h l f)
told_so kind name s (Existing id) outcome shown tells later ext h l f = (with_later s later h (λ w. outcome ≡ Err (already_text w kind id)) ext.base f tells, stands kind name id s shown later ext h l f)
told_so kind name s (Lost wasted id) outcome shown tells later ext h l f = (tells, stands kind name id s shown later ext h l f)

name_told : (patterns : Patterns) (kind : Kind) (name : List ℕ) (old new : Seen) (a : Assigned) (outcome : IdTold) → MadeSo old (AssignMade old.base.widths patterns kind name (Ok a)) new → HasShown new kind name (answers.answered_id a) → Tells new.base.widths kind name (Ok a) outcome
    → NameSays patterns kind name old outcome new
name_told patterns kind name old new a outcome made shown tells =
    record { own = made.0; made = made.1; asked = λ later ext h l f. (Ok a, with_later old later h (λ w. AssignMade w patterns kind name (Ok a) made.0) (ext.base ∙ made.1.since.extends.base) f made.2, told_so kind name new a outcome shown tells later ext h l f) }

name_refused : (patterns : Patterns) (kind : Kind) (name : List ℕ) (old new : Seen) (fault : AssignFault) (outcome : IdTold) → MadeSo old (AssignMade old.base.widths patterns kind name (Err fault)) new → Tells new.base.widths kind name (Err fault) outcome
    → NameSays patterns kind name old outcome new
name_refused patterns kind name old new (Filtered k) outcome made tells = record { own = made.0; made = made.1; asked = λ later ext h l f. (Err (Filtered k), with_later old later h (λ w. AssignMade w patterns kind name (Err (Filtered k)) made.0) (ext.base ∙ made.1.since.extends.base) f made.2, tells) }
name_refused patterns kind name old new (Exhausted k) outcome made tells = record { own = made.0; made = made.1; asked = λ later ext h l f. (Err (Exhausted k), with_later old later h (λ w. AssignMade w patterns kind name (Err (Exhausted k)) made.0) (ext.base ∙ made.1.since.extends.base) f made.2, tells) }
name_refused patterns kind name old new OutOfMemory outcome made tells = absurd tells
name_refused patterns kind name old new Stopped outcome made tells = absurd tells

pub name_says : (patterns : Patterns) (kind : Kind) (name : List ℕ) (old new : Seen) (answer : Result Assigned AssignFault) (outcome : IdTold) → MadeSo old (AssignMade old.base.widths patterns kind name answer) new
    → IfOk answer (λ a. HasShown new kind name (answers.answered_id a)) → Tells new.base.widths kind name answer outcome → NameSays patterns kind name old outcome new
name_says patterns kind name old new (Ok a) outcome made shown tells = name_told patterns kind name old new a outcome made shown tells
name_says patterns kind name old new (Err fault) outcome made shown tells = name_refused patterns kind name old new fault outcome made tells

pub name_begun : (patterns : Patterns) (kind : Kind) (name : List ℕ) (old new : Seen) (answer : Result Assigned AssignFault) → MadeSo old (AssignMade old.base.widths patterns kind name answer) new → NameBegun patterns kind name old new
name_begun patterns kind name old new answer made = record { own = made.0; made = made.1; begun = (answer, made.2) }

-- a stop of the assignment is one of the text
pub stopped_so : {T : Type 0} (before now : ℕ) (answer : Result Assigned AssignFault) (r : Result T RowsFault) → (r ≡ Err rows.Stopped → answer ≡ Err Stopped)
    → IfErr answer (λ e. RoseIf (answers.is_assign_stop e) before now) → IfErr r (λ e. RoseIf (is_stop e) before now)
stopped_so before now answer (Ok x) by rose = tt
stopped_so before now answer (Err rows.OutOfMemory) by rose = tt
stopped_so before now answer (Err rows.Stopped) by rose = subst (λ (a : Result Assigned AssignFault). IfErr a (λ e. RoseIf (answers.is_assign_stop e) before now)) (by refl) rose

-- ---- one text

pub read_nothing : (w : Widths) (patterns : Patterns) (kind : Kind) (read : Result (List ℕ) NameFault) → ReadBegun w patterns kind read []
read_nothing w patterns kind (Ok name) = (Err OutOfMemory, inl refl)
read_nothing w patterns kind (Err fault) = refl

first_nothing : (w : Widths) (patterns : Patterns) (rest : List NameOf) → FirstBegun w patterns rest []
first_nothing w patterns [] = refl
first_nothing w patterns (text ∷ rest) = read_nothing w patterns text.0 (name_of text.1)

pub text_says : (patterns : Patterns) (kind : Kind) (text name : List ℕ) (old new : Seen) (outcome : IdTold) → name_of text ≡ Ok name → NameSays patterns kind name old outcome new → TextSays patterns kind (name_of text) old outcome new
text_says patterns kind text name old new outcome is says = subst (λ (read : Result (List ℕ) NameFault). TextSays patterns kind read old outcome new) (sym is) says

pub text_begun : (patterns : Patterns) (kind : Kind) (text name : List ℕ) (old new : Seen) → name_of text ≡ Ok name → NameBegun patterns kind name old new → TextBegun patterns kind (name_of text) old new
text_begun patterns kind text name old new is begun = subst (λ (read : Result (List ℕ) NameFault). TextBegun patterns kind read old new) (sym is) begun

bad_so : (kind : Kind) (fault : NameFault) (read : Result (List ℕ) NameFault) (outcome : IdTold) → FailsName fault read → IsBadName kind fault outcome → (read ≡ Err fault) × (outcome ≡ Err (name_fault_text kind fault))
bad_so kind names.Empty read outcome f b = (f, b)
bad_so kind (names.TooLong len) read outcome f b = (f, b)
bad_so kind (names.BadByte at byte) read outcome f b = (f, b)
bad_so kind names.OutOfMemory read outcome f b = absurd b

pub text_bad : (patterns : Patterns) (kind : Kind) (fault : NameFault) (read : Result (List ℕ) NameFault) (s : Seen) (outcome : IdTold) → FailsName fault read → IsBadName kind fault outcome → TextSays patterns kind read s outcome s
text_bad patterns kind fault read s outcome f b =
    let x = bad_so kind fault read outcome f b in
    record { own = []; made = nothing_made s; asked = λ later ext h l fits. subst (λ (r : Result (List ℕ) NameFault). ReadAssigned patterns kind r (first later.length h) [] outcome) (sym x.0) (refl, x.1) }

pub bad_begun : (patterns : Patterns) (kind : Kind) (read : Result (List ℕ) NameFault) (s : Seen) → TextBegun patterns kind read s s
bad_begun patterns kind read s = record { own = []; made = nothing_made s; begun = read_nothing s.base.widths patterns kind read }

-- nothing but memory was wanted
pub memory_alone : {T : Type 0} (stops : ℕ) (r : Result T RowsFault) → IfErr r (λ e. e ≡ rows.OutOfMemory) → IfErr r (λ e. RoseIf (is_stop e) stops stops)
memory_alone stops (Ok x) e = tt
memory_alone stops (Err f) e = subst (λ (fault : RowsFault). RoseIf (is_stop fault) stops stops) (sym e) tt

-- ---- the texts so far

-- they were asked up to a length that isn't before the first
pub ran_on : {patterns : Patterns} {h : History} {caller n end e : ℕ} {texts : List NameOf} {outs : List IdTold} → Ran patterns h caller n end texts outs e → n ≤ e
ran_on start = omega arith
ran_on (then_asked text outcome ran le asked) = let a = ran_on ran in omega (arith, a, le)

pub none_so_far : (patterns : Patterns) (s : Seen) → SoFar patterns [] s [] s
none_so_far patterns s = record { own = []; made = nothing_made s; ran = λ later ext h l f. start }

own_of : (h : History) (old now new : Seen) (own : List Placed) → Since old now → Made now own new → Fits new h → deeds h old.caller now.length new.length ≡ own
own_of h old now new own since made f = ap (λ n. deeds h n now.length new.length) (sym since.caller) ∙ made.made h f

one_more : (patterns : Patterns) (done : List NameOf) (kind : Kind) (text : List ℕ) (from now new : Seen) (outs : List IdTold) (outcome : IdTold)
    → SoFar patterns done from outs now → TextSays patterns kind (name_of text) now outcome new → SoFar patterns (done ++ (kind, text) ∷ []) from (outs ++ outcome ∷ []) new
one_more patterns done kind text from now new outs outcome so x = record {
  own = so.own ++ x.own;
  made = made_joined from now new so.own x.own so.made x.made;
  ran = λ later ext h l f. then_asked (kind, text) outcome (so.ran later (extends_joined now new later x.made.since.extends ext) h l f) x.made.since.extends.length
      (subst (λ (own : List Placed). ReadAssigned patterns kind (name_of text) (first later.length h) own outcome) (sym (own_of h from now new x.own so.made.since x.made (ext.fits h f))) (x.asked later ext h l f));
}

begun_more : (patterns : Patterns) (done rest all : List NameOf) (kind : Kind) (text : List ℕ) (from now new : Seen) (outs : List IdTold)
    → all ≡ done ++ (kind, text) ∷ rest → SoFar patterns done from outs now → TextBegun patterns kind (name_of text) now new → InEach new (λ h. AssignBegun patterns h from.caller from.length all new.length)
begun_more patterns done rest all kind text from now new outs is so x h l f = record {
  done = done;
  rest = (kind, text) ∷ rest;
  outs = outs;
  last = now.length;
  all = is;
  ran = so.ran new x.made.since.extends h l f;
  in_range = x.made.since.extends.length;
  begun = subst (λ (own : List Placed). ReadBegun (store_after h).widths patterns kind (name_of text) own) (sym (own_of h from now new x.own so.made.since x.made f))
      (seen_carry f (λ (w : Widths). ReadBegun w patterns kind (name_of text) x.own) (subst (λ (b : Store). ReadBegun b.widths patterns kind (name_of text) x.own) (sym x.made.since.extends.base) x.begun));
}

ended_there : (patterns : Patterns) (done rest all : List NameOf) (from new : Seen) (outs : List IdTold)
    → all ≡ done ++ rest → SoFar patterns done from outs new → InEach new (λ h. AssignBegun patterns h from.caller from.length all new.length)
ended_there patterns done rest all from new outs is so h l f = record {
  done = done;
  rest = rest;
  outs = outs;
  last = new.length;
  all = is;
  ran = so.ran new (itself new) h l f;
  in_range = omega arith;
  begun = subst (λ (own : List Placed). FirstBegun (store_after h).widths patterns rest own) (sym (own_of h from new new [] so.made.since (nothing_made new) f)) (first_nothing (store_after h).widths patterns rest);
}

-- ---- the texts of a list

so_as : (patterns : Patterns) (from now : Seen) (texts texts' : List NameOf) (outs outs' : List IdTold) → texts ≡ texts' → outs ≡ outs' → SoFar patterns texts from outs now → SoFar patterns texts' from outs' now
so_as patterns from now texts texts' outs outs' t o so = subst (λ (x : List NameOf × List IdTold). SoFar patterns x.0 from x.1 now) (λ i. (t i, o i)) so

pub goes_none : (patterns : Patterns) (s : Seen) → GoesOn patterns [] s [] s
goes_none patterns s from done earlier so = so_as patterns from s done (done ++ []) earlier (earlier ++ []) (sym (append-nil done)) (sym (append-nil earlier)) so

pub goes_more : (patterns : Patterns) (texts : List NameOf) (kind : Kind) (text : List ℕ) (old now new : Seen) (outs : List IdTold) (outcome : IdTold)
    → GoesOn patterns texts old outs now → TextSays patterns kind (name_of text) now outcome new → GoesOn patterns (texts ++ (kind, text) ∷ []) old (outs ++ outcome ∷ []) new
goes_more patterns texts kind text old now new outs outcome go x from done earlier so =
    so_as patterns from new ((done ++ texts) ++ (kind, text) ∷ []) (done ++ (texts ++ (kind, text) ∷ [])) ((earlier ++ outs) ++ outcome ∷ []) (earlier ++ (outs ++ outcome ∷ []))
    (append_assoc done texts ((kind, text) ∷ [])) (append_assoc earlier outs (outcome ∷ []))
    (one_more patterns (done ++ texts) kind text from now new (earlier ++ outs) outcome (go from done earlier so) x)

pub ends_more : (patterns : Patterns) (front behind texts : List NameOf) (kind : Kind) (text : List ℕ) (old now new : Seen) (outs : List IdTold)
    → texts ≡ front ++ (kind, text) ∷ behind → GoesOn patterns front old outs now → TextBegun patterns kind (name_of text) now new → EndsEarly patterns texts old new
ends_more patterns front behind texts kind text old now new outs is go x from done rest earlier so =
    begun_more patterns (done ++ front) (behind ++ rest) (done ++ (texts ++ rest)) kind text from now new (earlier ++ outs)
    (ap (λ (ts : List NameOf). done ++ (ts ++ rest)) is ∙ ap (λ (ts : List NameOf). done ++ ts) (append_assoc front ((kind, text) ∷ behind) rest) ∙ sym (append_assoc done front ((kind, text) ∷ (behind ++ rest))))
    (go from done earlier so) x

pub ends_there : (patterns : Patterns) (front behind texts : List NameOf) (old new : Seen) (outs : List IdTold) → texts ≡ front ++ behind → GoesOn patterns front old outs new → EndsEarly patterns texts old new
ends_there patterns front behind texts old new outs is go from done rest earlier so =
    ended_there patterns (done ++ front) (behind ++ rest) (done ++ (texts ++ rest)) from new (earlier ++ outs)
    (ap (λ (ts : List NameOf). done ++ (ts ++ rest)) is ∙ ap (λ (ts : List NameOf). done ++ ts) (append_assoc front behind rest) ∙ sym (append_assoc done front (behind ++ rest)))
    (go from done earlier so)

-- ---- three lists

pub all_three : (patterns : Patterns) (a b c : List NameOf) (s0 s1 s2 s3 : Seen) (x y z : List IdTold) → GoesOn patterns a s0 x s1 → GoesOn patterns b s1 y s2 → GoesOn patterns c s2 z s3
    → InEach s3 (λ h. Ran patterns h s0.caller s0.length s3.length (a ++ (b ++ c)) (x ++ (y ++ z)) s3.length)
all_three patterns a b c s0 s1 s2 s3 x y z ga gb gc =
    let so = gc s0 (a ++ b) (x ++ y) (gb s0 a x (ga s0 [] [] (none_so_far patterns s0))) in
    (so_as patterns s0 s3 ((a ++ b) ++ c) (a ++ (b ++ c)) ((x ++ y) ++ z) (x ++ (y ++ z)) (append_assoc a b c) (append_assoc x y z) so).ran s3 (itself s3)

pub first_ends : (patterns : Patterns) (a b : List NameOf) (s0 s1 : Seen) → EndsEarly patterns a s0 s1 → InEach s1 (λ h. AssignBegun patterns h s0.caller s0.length (a ++ b) s1.length)
first_ends patterns a b s0 s1 e = e s0 [] b [] (none_so_far patterns s0)

pub second_ends : (patterns : Patterns) (a b c : List NameOf) (s0 s1 s2 : Seen) (x : List IdTold) → GoesOn patterns a s0 x s1 → EndsEarly patterns b s1 s2 → InEach s2 (λ h. AssignBegun patterns h s0.caller s0.length (a ++ (b ++ c)) s2.length)
second_ends patterns a b c s0 s1 s2 x ga e = e s0 a c x (ga s0 [] [] (none_so_far patterns s0))

pub third_ends : (patterns : Patterns) (a b c : List NameOf) (s0 s1 s2 s3 : Seen) (x y : List IdTold) → GoesOn patterns a s0 x s1 → GoesOn patterns b s1 y s2 → EndsEarly patterns c s2 s3 → InEach s3 (λ h. AssignBegun patterns h s0.caller s0.length (a ++ (b ++ c)) s3.length)
third_ends patterns a b c s0 s1 s2 s3 x y ga gb e =
    let is : (a ++ b) ++ (c ++ []) ≡ a ++ (b ++ c) = append_assoc a b (c ++ []) ∙ ap (λ (ts : List NameOf). a ++ (b ++ ts)) (append-nil c) in
    subst (λ (ts : List NameOf). InEach s3 (λ h. AssignBegun patterns h s0.caller s0.length ts s3.length)) is (e s0 (a ++ b) [] (x ++ y) (gb s0 a x (ga s0 [] [] (none_so_far patterns s0))))

-- what holds at each error
pub at_err : {T E : Type 0} {P : Type 0} (r : Result T E) → P → OnErr r P
at_err (Ok x) p = tt
at_err (Err e) p = p

pub err_as : {T E : Type 0} {P Q : Type 0} (r : Result T E) → (P → Q) → OnErr r P → OnErr r Q
err_as (Ok x) f p = tt
err_as (Err e) f p = f p
