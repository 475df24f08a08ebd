-- What a call's answer promises, by what it promised of a part.
use Rattle.std.proofs.Common.{◌≡◌, sym, ap, subst, ◌∙◌}
use Rattle.std.specs.Prelude.{Result, Ok, Err, IfOk, OnOk, OnErr}

module _ {T E : Type 0} where
  pub on_ok : (r : Result T E) (P Q : Type 0) → (P → Q) → OnOk r P → OnOk r Q
  on_ok (Ok x) P Q f p = f p
  on_ok (Err e) P Q f p = p

  pub on_err : (r : Result T E) (P Q : Type 0) → (P → Q) → OnErr r P → OnErr r Q
  on_err (Ok x) P Q f p = p
  on_err (Err e) P Q f p = f p

  pub answers : {A : Type 0} (r : Result T E) (f : T → A) (a b : A) → a ≡ b → IfOk r (λ x. f x ≡ a) → IfOk r (λ x. f x ≡ b)
  answers (Ok x) f a b same is = is ∙ same
  answers (Err e) f a b same is = is

  -- what holds of both outcomes holds
  pub either_way : {A : Type 0} (r : Result T E) (P : A → Type 0) (new ok err : A) → OnOk r (new ≡ ok) → OnErr r (new ≡ err) → P ok → P err → P new
  either_way (Ok x) P new ok err is _ p q = subst P (sym is) p
  either_way (Err e) P new ok err _ is p q = subst P (sym is) q

  -- what neither outcome changes stays
  pub still : {A B : Type 0} (r : Result T E) (f : A → B) (new ok err : A) → OnOk r (new ≡ ok) → OnErr r (new ≡ err) → f ok ≡ f err → f new ≡ f err
  still (Ok x) f new ok err is _ same = ap f is ∙ same
  still (Err e) f new ok err _ is same = ap f is
