-- The sub queries of a query, one after the other.
use Rattle.std.proofs.Common.{◌≡◌, ℕ, suc, ◌+◌, ◌<◌, ◌≤◌, List, [], ◌∷◌, ◌++◌, length, take, drop, get_or, sym, ap, subst, ◌∙◌, append_assoc}
use Rattle.std.specs.Prelude.{None, Ok, map}
use Rattle.std.proofs.lemmas.Grind.{flat_map-append}
use Rattle.std.proofs.lemmas.List.{append-nil, map-append, take_all}
use Rattle.json_reply.specs.Replies.{Group, plain}
use Rattle.json_reply.specs.declared.reply.Group as code
use Rattle.query_text.specs.declared.queries.Query.{Query}
use Rattle.query_text.specs.declared.queries.Sub.{Sub}
use Rattle.cell_model.specs.declared.events.Placed.{Placed}
use Rattle.cell_model.specs.History.{History, first}
use Rattle.cell_model.specs.Seen.{Seen}
use Rattle.cell_model.specs.Deeds.{Made}
use Rattle.metric_scan.specs.declared.fault.AskFault.{AskFault}
use Rattle.metric_scan.specs.declared.fault.AskFault.TheVariants.{OutOfMemory}
use Rattle.metric_scan.specs.Parts.{Part, all_own, AreQuerySteps, PartStands}
use Rattle.query_run.specs.Asked.{Answers, Answered, Refused}
use Rattle.query_run.specs.Asked.Answers.{none, more}
use Rattle.query_run.specs.AskedQueries.{wanted, names_in, barred, answer_over, IsFew}
use Rattle.query_run.specs.SubQuery.{Later, SubAnswered, SubRefused}
use Rattle.query_run.proofs.Lower as lower
use Rattle.metric_scan.proofs.NameReads.{about, taken}
use Rattle.metric_scan.proofs.WalkSteps.{steps_joined}

abbrev pub AnswersOf : Query → ℕ → History → List Sub → List Part → List Group → Type 0
AnswersOf q = Answers (wanted q) names_in (barred q) (answer_over q) (IsFew q)

-- these sub queries were answered
pub record Progress (q : Query) (old : Seen) (done : List Sub) (groups : List Group) (now : Seen) : Type 0 where
  pub parts : List Part
  pub made : Made old (all_own parts) now
  pub steps : AreQuerySteps (all_own parts)
  pub answers : Later now (λ end h. AnswersOf q end h done parts groups)

-- ---- one more at the end

answers_more : (q : Query) (end : ℕ) (h : History) (s : Sub) (part : Part) (last : List Group) {subs : List Sub} {parts : List Part} {groups : List Group} → AnswersOf q end h subs parts groups → PartStands (wanted q s) (names_in s) part end h
    → answer_over q s part.shown ≡ Ok last → barred q s ≡ None → IsFew q s part.own (first end h) → AnswersOf q end h (subs ++ s ∷ []) (parts ++ part ∷ []) (groups ++ last)
answers_more q end h s part last none stands is free few = subst (AnswersOf q end h (s ∷ []) (part ∷ [])) (append-nil last) (more free stands is few none)
answers_more q end h s part last (more {s = t} {part = p} {groups = gs} {subs = subs} {parts = parts} {rest = rest} b st a f tail) stands is free few =
    subst (AnswersOf q end h (t ∷ (subs ++ s ∷ [])) (p ∷ (parts ++ part ∷ []))) (sym (append_assoc gs rest last)) (more b st a f (answers_more q end h s part last tail stands is free few))

all_own_more : (parts : List Part) (part : Part) → all_own (parts ++ part ∷ []) ≡ all_own parts ++ part.own
all_own_more parts part = flat_map-append (λ (p : Part). p.own) parts (part ∷ []) ∙ ap (λ (l : List Placed). all_own parts ++ l) (append-nil part.own)

pub progress_none : (q : Query) (s : Seen) (groups : List code.Group) → groups ≡ [] → Progress q s [] (map plain groups) s
progress_none q s groups is = subst (λ (l : List code.Group). Progress q s [] (map plain l) s) (sym is) (record {
  parts = [];
  made = lower.nothing_made s;
  steps = λ p c. absurd (lower.not_in p c);
  answers = λ later ext h lawful fits. none;
})

pub progress_more : (q : Query) (s : Sub) (old now new : Seen) (done : List Sub) (groups last : List Group) → Progress q old done groups now → SubAnswered q s now last new → Progress q old (done ++ s ∷ []) (groups ++ last) new
progress_more q s old now new done groups last p a = record {
  parts = p.parts ++ a.part ∷ [];
  made = subst (λ (l : List Placed). Made old l new) (sym (all_own_more p.parts a.part)) (lower.made_joined old now new (all_own p.parts) a.part.own p.made a.made);
  steps = subst AreQuerySteps (sym (all_own_more p.parts a.part)) (steps_joined (all_own p.parts) a.part.own p.steps a.steps);
  answers = λ later ext h lawful fits. answers_more q later.length h s a.part last (p.answers later (lower.extends_joined now new later a.made.since.extends ext) h lawful fits) (a.stands later ext h lawful fits) a.answers a.free (a.few later ext h lawful fits);
}

-- ---- all of them

pub all_answered : (q : Query) (old new : Seen) (groups : List Group) → Progress q old q.subs groups new → Answered (wanted q) names_in (barred q) (answer_over q) (IsFew q) old q.subs groups new
all_answered q old new groups p = record { parts = p.parts; made = p.made; steps = p.steps; answers = λ h lawful fits. p.answers new (lower.itself new) h lawful fits }

-- ---- one of them refused

pub one_refused : (q : Query) (s : Sub) (old now new : Seen) (done rest : List Sub) (groups : List Group) (fault : AskFault) → q.subs ≡ done ++ s ∷ rest → Progress q old done groups now → SubRefused q s now fault new
    → Refused (wanted q) names_in (barred q) (answer_over q) (IsFew q) old q.subs fault new
one_refused q s old now new done rest groups fault cut p r = record {
  done = done;
  sub = s;
  rest = rest;
  cut = cut;
  parts = p.parts;
  part = r.part;
  groups = groups;
  made = lower.made_joined old now new (all_own p.parts) r.part.own p.made r.made;
  steps = steps_joined (all_own p.parts) r.part.own p.steps r.steps;
  before = λ h lawful fits. p.answers new r.made.since.extends h lawful fits;
  cause = r.cause;
  few = r.few;
}

-- no memory for its groups
pub no_room : (q : Query) (s : Sub) (now new : Seen) (groups : List Group) → SubAnswered q s now groups new → SubRefused q s now OutOfMemory new
no_room q s now new groups a = record { part = a.part; made = a.made; steps = a.steps; cause = λ h lawful fits. tt; few = λ h lawful fits. a.few new (lower.itself new) h lawful fits }

-- ---- along the list

pub done_more : (q : Query) (old now new : Seen) (subs : List Sub) (i : ℕ) (s : Sub) (groups last both : List code.Group) → i < length subs → s ≡ get_or subs i s → Progress q old (take i subs) (map plain groups) now → SubAnswered q s now (map plain last) new
    → both ≡ groups ++ last → Progress q old (take (i + 1) subs) (map plain both) new
done_more q old now new subs i s groups last both lt is p a both_are =
    subst (λ (l : List Sub). Progress q old l (map plain both) new) (sym (taken subs i s lt is))
    (subst (λ (l : List Group). Progress q old (take i subs ++ s ∷ []) l new) (sym (ap (map plain) both_are ∙ map-append plain groups last)) (progress_more q s old now new (take i subs) (map plain groups) (map plain last) p a))

pub cut_at : (q : Query) (subs : List Sub) (i : ℕ) (s : Sub) → subs ≡ q.subs → i < length subs → s ≡ get_or subs i s → q.subs ≡ take i subs ++ s ∷ drop (suc i) subs
cut_at q subs i s same lt is = sym same ∙ about subs i s lt is

pub all_done : (q : Query) (old now : Seen) (subs : List Sub) (i : ℕ) (groups : List Group) → subs ≡ q.subs → length subs ≤ i → Progress q old (take i subs) groups now → Progress q old q.subs groups now
all_done q old now subs i groups same le p = subst (λ (l : List Sub). Progress q old l groups now) (take_all i subs le ∙ same) p

-- a sub query of the slice is one of the query's
pub at_subs : (subs list : List Sub) (i : ℕ) (s : Sub) → list ≡ subs → i < length list → s ≡ get_or list i s → (i < length subs) × (s ≡ get_or subs i s)
at_subs subs list i s same lt is = subst (λ (l : List Sub). (i < length l) × (s ≡ get_or l i s)) same (lt, is)
