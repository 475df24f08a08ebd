-- What a caller made, and what is carried to what it has seen later.
use Rattle.std.proofs.Common.{◌≡◌, inl, inr, ℕ, ◌≤◌, ◌<◌, List, [], ◌∷◌, ◌++◌, refl, sym, ap, subst, ◌∙◌, arith}
use Rattle.std.specs.Prelude.{Contains, Option, None, Some, Bool, true, false, nat_le}
use Rattle.cell_model.specs.declared.events.Step.{Step}
use Rattle.cell_model.specs.declared.events.Reply.{Reply}
use Rattle.cell_model.specs.declared.events.Entry.{Entry}
use Rattle.cell_model.specs.History.{entry_at}
use Rattle.cell_model.specs.declared.events.Placed.{Placed}
use Rattle.cell_model.specs.Seen.{Seen, IsOwn, Waited, Stepped, IsPossible}
use Rattle.cell_model.specs.Deeds.{deeds, placed, Extends, Since, Made}
use Rattle.cell_laws.proofs.DeedRanges.{deeds_none, deeds_one, deeds_joined}

-- where nothing was done, nothing changed
pub nothing_waited : (s : Seen) → Waited s s
nothing_waited s = record { base = refl; caller = refl; absorbed = refl; length = omega arith; kept = λ place e saw. saw; no_own = λ place e saw own. saw; alone = refl; still = λ a. refl }

-- what is one caller's in one sight is so in another of the same caller
pub own_after : (old new : Seen) → new.caller ≡ old.caller → new.absorbed ≡ old.absorbed → (n : ℕ) → IsOwn old n → IsOwn new n
own_after old new c a n (inl e) = inl (e ∙ sym c)
own_after old new c a n (inr e) = inr (subst (λ (xs : List ℕ). Contains xs n) (sym a) e)

pub extends_extends : {a b c : Seen} → Extends a b → Extends b c → Extends a c
extends_extends x y = record {
  base = y.base ∙ x.base;
  length = let l = x.length in let m = y.length in omega (arith, l, m);
  kept = λ p e s. y.kept p e (x.kept p e s);
  fits = λ h f. x.fits h (y.fits h f);
}

pub waited_extends : {old new : Seen} → Waited old new → Extends old new
waited_extends {old} {new} s = record {
  base = s.base;
  length = s.length;
  kept = s.kept;
  fits = λ h f. record {
    base = f.base ∙ s.base;
    long = let l = f.long in let m = s.length in omega (arith, l, m);
    seen = λ place e saw. f.seen place e (s.kept place e saw);
    no_other = λ place e le own is. s.no_own place e (f.no_other place e (let m = s.length in omega (arith, m, le)) (own_after old new s.caller s.absorbed e.caller own) is) own;
  };
}

pub stepped_extends : {old : Seen} {step : Step} {reply : Reply} {new : Seen} → Stepped old step reply new → Extends old new
stepped_extends {old} {step} {reply} {new} s = record {
  base = s.base;
  length = let m = s.length in omega (arith, m);
  kept = s.kept;
  fits = λ h f. record {
    base = f.base ∙ s.base;
    long = let l = f.long in let m = s.length in omega (arith, l, m);
    seen = λ place e saw. f.seen place e (s.kept place e saw);
    no_other = λ place e le own is. s.no_own place e (f.no_other place e (let m = s.length in omega (arith, m, le)) (own_after old new s.caller s.absorbed e.caller own) is) own (λ same. let m = s.length in omega (arith, m, le, same));
  };
}

since_wait : {old new : Seen} → Waited old new → (IsPossible old → IsPossible new) → Since old new
since_wait {old} {new} s lives = record {
  extends = waited_extends s;
  caller = s.caller;
  alone = s.alone;
  lives = lives;
  only = λ a h f place e above le st. absurd (let same = s.still a in omega (arith, same, above, le));
}

since_step : {old new : Seen} {step : Step} {reply : Reply} → Stepped old step reply new → IsPossible new → Since old new
since_step {old} {new} {step} {reply} s possible = record {
  extends = stepped_extends s;
  caller = s.caller;
  alone = s.alone;
  lives = λ p. possible;
  only = λ a h f place e above le st.
      let next = s.next a in
      let here : place ≡ new.length = omega (arith, next, above, le) in
      same_entry _ _ (sym (f.seen _ _ s.stepped) ∙ ap (entry_at h) (sym here) ∙ st);
}
  where
    same_entry : (x y : Entry) → Some x ≡ Some y → y.caller ≡ x.caller
    same_entry x y e = ap (λ (o : Option Entry). who o) (sym e)
      where
        who : Option Entry → ℕ
        who None = 0
        who (Some z) = z.caller

pub since_since : {a b c : Seen} → Since a b → Since b c → Since a c
since_since {a} {b} {c} x y = record {
  extends = extends_extends x.extends y.extends;
  caller = y.caller ∙ x.caller;
  alone = y.alone ∙ x.alone;
  lives = λ p. y.lives (x.lives p);
  only = λ al h f place e above le st. split (nat_le place b.length) refl
      (λ low. x.only al h (y.extends.fits h f) place e above low st)
      (λ high. y.only (x.alone ∙ al) h f place e high le st ∙ x.caller);
}
  where
    split : {P : Type 0} {place : ℕ} (t : Bool) → nat_le place b.length ≡ t → (place ≤ b.length → P) → (b.length < place → P) → P
    split true e f g = f (grind (arith, e))
    split false e f g = g (grind (arith, e))

pub waited_made : {old new : Seen} → Waited old new → (IsPossible old → IsPossible new) → Made old [] new
waited_made {old} {new} s lives = record {
  since = since_wait s lives;
  made = λ h f. deeds_none h old.caller old.length new.length (λ place e above le own st.
      let low = (s.no_own place e (f.no_other place e le (own_after old new s.caller s.absorbed e.caller (inl own)) st) (inl own)).0 in
      omega (arith, low, above));
}

pub stepped_made : {old : Seen} {step : Step} {reply : Reply} {new : Seen} → Stepped old step reply new → IsPossible new → Made old (placed new.length (record { caller = old.caller; step = step; reply = reply }) ∷ []) new
stepped_made {old} {step} {reply} {new} s possible = record {
  since = since_step s possible;
  made = λ h f. deeds_one h old.caller old.length new.length _ s.length refl (f.seen _ _ s.stepped) (λ place e above below own st.
      let low = (s.no_own place e (f.no_other place e (omega (arith, below)) (own_after old new s.caller s.absorbed e.caller (inl own)) st) (inl own) (λ same. omega (arith, below, same))).0 in
      omega (arith, low, above));
}

-- entries made after entries made
pub made_made : {a b c : Seen} {xs ys : List Placed} → Made a xs b → Made b ys c → Made a (xs ++ ys) c
made_made {a} {b} {c} {xs} {ys} x y = record {
  since = since_since x.since y.since;
  made = λ h f. deeds_joined h a.caller a.length b.length c.length x.since.extends.length y.since.extends.length
      ∙ ap (λ zs. zs ++ deeds h a.caller b.length c.length) (x.made h (y.since.extends.fits h f)) ∙ ap (λ n. xs ++ deeds h n b.length c.length) (sym x.since.caller) ∙ ap (λ zs. xs ++ zs) (y.made h f);
}
