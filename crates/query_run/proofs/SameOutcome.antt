-- Histories that are alike decide the same answer.
use Rattle.std.proofs.Common.{◌≡◌, ℕ, List, [], ◌∷◌, ◌++◌, refl, sym, ap, subst, ◌∙◌, append_assoc}
use Rattle.std.specs.Prelude.{◌↔◌, Contains, Option, None, Some, Result, Ok, Err, map}
use Rattle.std.proofs.lemmas.List.Elements.{Contains-append_left, Contains-append_right}
use Rattle.tsd_base.specs.Points.{DataPoint}
use Rattle.cell_model.specs.History.{History}
use Rattle.cell_model.specs.Readings.{Reading, Meets, OneValued, reading_of}
use Rattle.json_reply.specs.Replies.{Group}
use Rattle.query_text.specs.declared.queries.Query.{Query}
use Rattle.query_text.specs.declared.queries.Sub.{Sub}
use Rattle.metric_scan.specs.declared.fault.AskFault.{AskFault}
use Rattle.metric_scan.specs.declared.fault.AskFault.TheVariants.{Unknown}
use Rattle.query_run.specs.AskedQueries.{as_point}
use Rattle.query_run.specs.Invisible.{AcceptedFor, IsSettled}
use Rattle.query_run.specs.Laws.{AnswerIsUnordered}
use Rattle.metric_scan.specs.Parts.{NameOf, IsResolved}
use Rattle.query_run.specs.AskedQueries.{names_in}
use Rattle.query_run.proofs.Lower as lower
use Rattle.query_run.proofs.Outcomes.{Comes, IsFirstUnresolved, IsOver, as_answer}
use Rattle.query_run.proofs.Outcomes.Comes.{over, many, lacks, free}
use Rattle.query_run.proofs.RowReadings.{asks}

-- ---- the first name that isn't resolved

same_heads : {X : Type 0} (x y : X) (xs ys : List X) → x ∷ xs ≡ y ∷ ys → x ≡ y
same_heads x y xs ys e = cc

same_tails : {X : Type 0} (x y : X) (xs ys : List X) → x ∷ xs ≡ y ∷ ys → xs ≡ ys
same_tails x y xs ys e = cc

-- of a list the first element that isn't so is one
one_first : {X : Type 0} (P : X → Type 0) (before later : List X) (n m : X) (after behind : List X) → ((x : X) → Contains before x → P x) → (P n → ⊥) → ((x : X) → Contains later x → P x) → (P m → ⊥)
    → before ++ n ∷ after ≡ later ++ m ∷ behind → n ≡ m
one_first P [] [] n m after behind all stops every ends e = same_heads n m after behind e
one_first P [] (y ∷ later) n m after behind all stops every ends e = absurd (stops (subst P (sym (same_heads n y after (later ++ m ∷ behind) e)) (every y (lower.here y later))))
one_first P (x ∷ before) [] n m after behind all stops every ends e = absurd (ends (subst P (same_heads x m (before ++ n ∷ after) behind e) (all x (lower.here x before))))
one_first P (x ∷ before) (y ∷ later) n m after behind all stops every ends e =
    one_first P before later n m after behind (λ z c. all z (lower.there x z before c)) stops (λ z c. every z (lower.there y z later c)) ends (same_tails x y (before ++ n ∷ after) (later ++ m ∷ behind) e)

-- the name is one of them
unresolved_in : (names : List NameOf) (n : NameOf) (g : History) (o : IsFirstUnresolved names n g) → Contains names n
unresolved_in names n g o = subst (λ (l : List NameOf). Contains l n) (sym o.cut) (Contains-append_right o.before (n ∷ o.after) n (lower.here n o.after))

before_in : (names : List NameOf) (n : NameOf) (g : History) (o : IsFirstUnresolved names n g) (x : NameOf) → Contains o.before x → Contains names x
before_in names n g o x c = subst (λ (l : List NameOf). Contains l x) (sym o.cut) (Contains-append_left o.before (n ∷ o.after) x c)

-- ---- one sub query

back : (rs : List Reading) → map reading_of (map as_point rs) ≡ rs
back [] = refl
back (r ∷ rs) = ap (λ (l : List Reading). r ∷ l) (back rs)

some_is : (x y : AskFault) → ◌≡◌ {A = Option AskFault} (Some x) (Some y) → x ≡ y
some_is x y e = cc

none_some : (x : AskFault) → ◌≡◌ {A = Option AskFault} None (Some x) → ⊥
none_some x e = cc

module _ (q : Query) (s : Sub) (g h : History) (readings : (r : Reading) → AcceptedFor q s g r ↔ AcceptedFor q s h r) (names : (n : NameOf) → Contains (names_in s) n → IsResolved g n ↔ IsResolved h n) (one : OneValued (AcceptedFor q s g)) (unordered : AnswerIsUnordered) where
  one_answer : (x y : Result (List Group) ℕ) → IsOver q s g x → IsOver q s h y → x ≡ y
  one_answer x y o p = sym o.is ∙ unordered q s (map as_point o.shown) (map as_point p.shown) same_readings one_valued ∙ p.is
    where
      same_readings : (r : Reading) → Contains (map reading_of (map as_point o.shown)) r ↔ Contains (map reading_of (map as_point p.shown)) r
      same_readings r = (
        λ c. subst (λ (l : List Reading). Contains l r) (sym (back p.shown)) ((p.all r).1 ((readings r).0 ((o.all r).0 (subst (λ (l : List Reading). Contains l r) (back o.shown) c)))),
        λ c. subst (λ (l : List Reading). Contains l r) (sym (back o.shown)) ((o.all r).1 ((readings r).1 ((p.all r).0 (subst (λ (l : List Reading). Contains l r) (back p.shown) c)))),
      )

      one_valued : (x y : DataPoint) → Contains (map as_point o.shown) x → Contains (map as_point o.shown) y → x.tags ≡ y.tags → x.time ≡ y.time → x.value ≡ y.value
      one_valued x y c d tags time =
          let a = lower.map_in as_point o.shown x c in
          let b = lower.map_in as_point o.shown y d in
          let ka = (o.all a.0).0 a.1 in
          let kb = (o.all b.0).0 b.1 in
          let m : Meets a.0 b.0 = record {
            metric = (asks q.start q.end s.metric s.filters a.0 ka.1).metric_is ∙ sym (asks q.start q.end s.metric s.filters b.0 kb.1).metric_is;
            tags = ap (λ (z : DataPoint). z.tags) a.2 ∙ tags ∙ sym (ap (λ (z : DataPoint). z.tags) b.2);
            time = ap (λ (z : DataPoint). z.time) a.2 ∙ time ∙ sym (ap (λ (z : DataPoint). z.time) b.2);
          } in
          sym (ap (λ (z : DataPoint). z.value) a.2) ∙ one a.0 b.0 ka kb m ∙ ap (λ (z : DataPoint). z.value) b.2

  one_unresolved : (n m : NameOf) → IsFirstUnresolved (names_in s) n g → IsFirstUnresolved (names_in s) m h → n ≡ m
  one_unresolved n m o p =
      one_first (IsResolved g) o.before p.before n m o.after p.after o.resolved o.fails (λ x c. (names x (before_in (names_in s) m h p x c)).1 (p.resolved x c)) (λ r. p.fails ((names m (unresolved_in (names_in s) m h p)).0 r)) (sym o.cut ∙ p.cut)

  pub one_outcome : (x y : Result (List Group) AskFault) → Comes q s g x → Comes q s h y → IsSettled x → IsSettled y → x ≡ y
  one_outcome x y (over u o e) (over v p f) a b = e ∙ ap as_answer (one_answer u v o p) ∙ sym f
  one_outcome x y (over u o e) (many fault is f) a b = absurd (none_some fault (sym o.free ∙ is))
  one_outcome x y (over u o e) (lacks n clear p f) a b = absurd (p.fails ((names n (unresolved_in (names_in s) n h p)).0 (o.resolved n (unresolved_in (names_in s) n h p))))
  one_outcome x y (many fault is e) (over v p f) a b = absurd (none_some fault (sym p.free ∙ is))
  one_outcome x y (many fault is e) (many other has f) a b = e ∙ ap (λ (z : AskFault). Err z) (some_is fault other (sym is ∙ has)) ∙ sym f
  one_outcome x y (many fault is e) (lacks n clear p f) a b = absurd (none_some fault (sym clear ∙ is))
  one_outcome x y (lacks n clear o e) (over v p f) a b = absurd (o.fails ((names n (unresolved_in (names_in s) n g o)).1 (p.resolved n (unresolved_in (names_in s) n g o))))
  one_outcome x y (lacks n clear o e) (many fault is f) a b = absurd (none_some fault (sym clear ∙ is))
  one_outcome x y (lacks n clear o e) (lacks m bar p f) a b = e ∙ ap (λ (z : NameOf). Err (Unknown z.0 z.1)) (one_unresolved n m o p) ∙ sym f
  one_outcome x y (free never) d a b = absurd (never a)
  one_outcome x y (over u o e) (free never) a b = absurd (never b)
  one_outcome x y (many fault is e) (free never) a b = absurd (never b)
  one_outcome x y (lacks n clear o e) (free never) a b = absurd (never b)

-- ---- sub queries, one after the other

-- more groups behind these, or why there are none
abbrev pub with_more : List Group → Result (List Group) AskFault → Result (List Group) AskFault
with_more groups (Ok more) = Ok (groups ++ more)
with_more groups (Err fault) = Err fault

-- the others are asked where this one has groups
abbrev pub Follows : Result (List Group) AskFault → (Result (List Group) AskFault → Type 0) → Result (List Group) AskFault → Type 0
Follows (Ok groups) Rest x = (rest : Result (List Group) AskFault) × Rest rest × (x ≡ with_more groups rest)
Follows (Err fault) Rest x = ◌≡◌ {A = Result (List Group) AskFault} x (Err fault)

abbrev pub AllCome : Query → History → List Sub → Result (List Group) AskFault → Type 0
AllCome q g [] x = ◌≡◌ {A = Result (List Group) AskFault} x (Ok [])
AllCome q g (s ∷ subs) x = (y : Result (List Group) AskFault) × Comes q s g y × Follows y (AllCome q g subs) x

settled_rest : (groups : List Group) (rest : Result (List Group) AskFault) → IsSettled (with_more groups rest) → IsSettled rest
settled_rest groups (Ok more) a = tt
settled_rest groups (Err fault) a = a

same_groups : (a b : List Group) → ◌≡◌ {A = Result (List Group) AskFault} (Ok a) (Ok b) → a ≡ b
same_groups a b e = cc

not_both : (a : List Group) (f : AskFault) → ◌≡◌ {A = Result (List Group) AskFault} (Ok a) (Err f) → ⊥
not_both a f e = cc

pub same_for_all : AnswerIsUnordered → (q : Query) (g h : History) (subs : List Sub) → ((s : Sub) → Contains subs s → (r : Reading) → AcceptedFor q s g r ↔ AcceptedFor q s h r)
    → ((s : Sub) → Contains subs s → (n : NameOf) → Contains (names_in s) n → IsResolved g n ↔ IsResolved h n) → ((s : Sub) → Contains subs s → OneValued (AcceptedFor q s g))
    → (x y : Result (List Group) AskFault) → AllCome q g subs x → AllCome q h subs y → IsSettled x → IsSettled y → x ≡ y
same_for_all unordered q g h [] readings names one x y c d a b = c ∙ sym d
same_for_all unordered q g h (s ∷ subs) readings names one x y c d a b =
    at c.0 d.0 c.1 d.1 c.2 d.2 (same_for_all unordered q g h subs (λ t i. readings t (lower.there s t subs i)) (λ t i. names t (lower.there s t subs i)) (λ t i. one t (lower.there s t subs i)))
  where
    outcome : (u v : Result (List Group) AskFault) → Comes q s g u → Comes q s h v → IsSettled u → IsSettled v → u ≡ v
    outcome = one_outcome q s g h (readings s (lower.here s subs)) (names s (lower.here s subs)) (one s (lower.here s subs)) unordered

    at : (u v : Result (List Group) AskFault) → Comes q s g u → Comes q s h v → Follows u (AllCome q g subs) x → Follows v (AllCome q h subs) y
        → ((x y : Result (List Group) AskFault) → AllCome q g subs x → AllCome q h subs y → IsSettled x → IsSettled y → x ≡ y) → x ≡ y
    at (Ok u) (Ok v) cu cv f k go =
        let ra = settled_rest u f.0 (subst IsSettled f.2 a) in
        let rb = settled_rest v k.0 (subst IsSettled k.2 b) in
        let same = same_groups u v (outcome (Ok u) (Ok v) cu cv tt tt) in
        f.2 ∙ (λ i. with_more (same i) (go f.0 k.0 f.1 k.1 ra rb i)) ∙ sym k.2
    at (Ok u) (Err v) cu cv f k go = absurd (not_both u v (outcome (Ok u) (Err v) cu cv tt (subst IsSettled k b)))
    at (Err u) (Ok v) cu cv f k go = absurd (not_both v u (sym (outcome (Err u) (Ok v) cu cv (subst IsSettled f a) tt)))
    at (Err u) (Err v) cu cv f k go = f ∙ outcome (Err u) (Err v) cu cv (subst IsSettled f a) (subst IsSettled k b) ∙ sym k

-- ---- answers in front of others

more_none : (x : Result (List Group) AskFault) → with_more [] x ≡ x
more_none (Ok groups) = refl
more_none (Err fault) = refl

more_more : (a b : List Group) (x : Result (List Group) AskFault) → with_more (a ++ b) x ≡ with_more a (with_more b x)
more_more a b (Ok groups) = ap (λ (l : List Group). Ok l) (append_assoc a b groups)
more_more a b (Err fault) = refl

pub one_more : (q : Query) (g : History) (s : Sub) (subs : List Sub) (groups rest : List Group) (x : Result (List Group) AskFault) → Comes q s g (Ok groups) → AllCome q g subs (with_more rest x) → AllCome q g (s ∷ subs) (with_more (groups ++ rest) x)
one_more q g s subs groups rest x c all = (Ok groups, c, (with_more rest x, all, more_more groups rest x))

pub none_more : (q : Query) (g : History) (subs : List Sub) (x : Result (List Group) AskFault) → AllCome q g subs x → AllCome q g subs (with_more [] x)
none_more q g subs x all = subst (AllCome q g subs) (sym (more_none x)) all
