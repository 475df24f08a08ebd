-- What a site's callers and connections come to.
use Rattle.std.proofs.Common.{◌≡◌, ℕ, ◌+◌, ◌-◌, ◌^◌, Bool, true, List, ◌++◌, ◌⊎◌, inl, inr, sym, subst, ap, ◌∙◌, arith}
use Rattle.std.specs.Prelude.{Option, Some, IfSome, option_to_list, min, All}
use Rattle.std.proofs.lemmas.List.Elements.{All-pop}
use Rattle.tsd_io.specs.Causes.{Rose}
use Rattle.tsd_doors.specs.Links.{Counts}
use Rattle.link_acceptor.specs.declared.accept_loop.AcceptEnd.{AcceptEnd}
use Rattle.link_acceptor.specs.declared.accept_loop.AcceptEnd.TheVariants as accept_end
use Rattle.link_acceptor.specs.Accepting.{HasReason, IsNoneLeft, links_between, lost_by}
use Rattle.link_workers.specs.Returns.{AccountsFor}
use Rattle.worker_returns.specs.GatheredLinks.{TakenBack}
use Rattle.site_workers.specs.ServedSites.{SiteCounts}

-- as many callers opened as took part
pub callers_counted : (old now all workers front left : ℕ) → now ≡ old + all → workers ≡ all → workers ≡ front + 1 → left ≡ front → now ≡ old + (left + 1)
callers_counted old now all workers front left more whole popped same = omega (arith, more, whole, popped, same)

-- ---- lists of workers

-- those in front of the last, and the last
pub front_holds : {X : Type 0} (xs front : List X) (r : Option X) (P : X → Type 0) → xs ≡ front ++ option_to_list r → All P xs → All P front
front_holds xs front r P are all = (All-pop P xs front r are all).0

pub last_holds : {X : Type 0} (xs front : List X) (r : Option X) (x : X) (P : X → Type 0) → xs ≡ front ++ option_to_list r → r ≡ Some x → All P xs → P x
last_holds {X = X} xs front r x P are is all = subst (λ (o : Option X). IfSome o P) is (All-pop P xs front r are all).1

-- ---- a site's connections

lost : (end : AcceptEnd) → end ≡ accept_end.OutOfMemory → lost_by end ≡ 0 → ⊥
lost end is none = let one : lost_by end ≡ 1 = ap lost_by is in omega (arith, one, none)

pub counted_links : (all : Bool) (end end' : AcceptEnd) (links ends k : ℕ) (x y z : Counts) → ((all ≡ true) × (end' ≡ end)) ⊎ (end' ≡ accept_end.OutOfMemory) → links ≡ links_between x y → AccountsFor end x y k → TakenBack all k 0 ends y z → SiteCounts end' links ends x z
counted_links all end end' links ends k x y z how are a t = record {
  port = t.port ∙ a.port;
  links_are = are ∙ between a.returned t.accepted;
  returned = returned a.returned t.told;
  all = λ none. every how none;
}
  where
    between : y.returned ≡ x.returned → z.returned + z.out ≡ y.returned + y.out → links_between x y ≡ min ((z.returned + z.out) - (x.returned + x.out)) (2 ^ 64 - 1)
    between r o = let same : y.out - x.out ≡ (z.returned + z.out) - (x.returned + x.out) = omega (arith, r, o) in ap (λ n. min n (2 ^ 64 - 1)) same

    returned : y.returned ≡ x.returned → ends + y.returned ≡ 0 + z.returned → z.returned ≡ x.returned + ends
    returned r told = omega (arith, r, told)

    sum : y.returned ≡ x.returned → y.out ≡ x.out + k → z.returned + z.out ≡ y.returned + y.out → ends + y.returned ≡ 0 + z.returned → z.returned ≡ y.returned + k → z.returned + z.out ≡ x.returned + x.out + ends
    sum r o acc told each = omega (arith, r, o, acc, told, each)

    every : ((all ≡ true) × (end' ≡ end)) ⊎ (end' ≡ accept_end.OutOfMemory) → lost_by end' ≡ 0 → z.returned + z.out ≡ x.returned + x.out + ends
    every (inl both) none = sum a.returned (a.each (sym (ap lost_by both.1) ∙ none)) t.accepted t.told (t.each both.0)
    every (inr out) none = absurd (lost end' out none)

-- an end that was given up for want of memory has no other reason
pub reasons : (all : Bool) (end end' : AcceptEnd) (w w' w'' : Option (List (List ℕ))) (s s' f f' f'' : ℕ) → ((all ≡ true) × (end' ≡ end)) ⊎ (end' ≡ accept_end.OutOfMemory) → w'' ≡ w' → f'' ≡ f' → HasReason end w w' s s' f f' → HasReason end' w w'' s s' f f''
reasons all end end' w w' w'' s s' f f' f'' (inl both) ws fs r = record {
  none = λ is. subst (IsNoneLeft w) (sym ws) (r.none (sym both.1 ∙ is));
  stopped = λ is. r.stopped (sym both.1 ∙ is);
  heeded = λ no_stop enough. r.heeded (λ is. no_stop (both.1 ∙ is)) (λ is. enough (both.1 ∙ is));
  fault = λ is. subst (Rose f) (sym fs) (r.fault (sym both.1 ∙ is));
}
reasons all end end' w w' w'' s s' f f' f'' (inr out) ws fs r = record {
  none = λ is. absurd (other (sym is ∙ out));
  stopped = λ is. absurd (other_stop (sym is ∙ out));
  heeded = λ no_stop enough. absurd (enough out);
  fault = λ is. absurd (other_fault (sym is ∙ out));
}
  where
    other : accept_end.NoneLeft ≡ accept_end.OutOfMemory → ⊥
    other is = let one : 0 ≡ 1 = ap lost_by is in omega (arith, one)

    other_stop : accept_end.Stopped ≡ accept_end.OutOfMemory → ⊥
    other_stop is = let one : 0 ≡ 1 = ap lost_by is in omega (arith, one)

    other_fault : accept_end.DoorFault ≡ accept_end.OutOfMemory → ⊥
    other_fault is = let one : 0 ≡ 1 = ap lost_by is in omega (arith, one)
