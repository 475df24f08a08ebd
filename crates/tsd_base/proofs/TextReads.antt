-- The point of a text, by what of its parts tells the series.
use Rattle.std.proofs.Common.{◌≡◌, ℕ, Bool, ℤ, List, [], ◌∷◌, Result, Ok, Err, refl, sym, ap, ◌∙◌}
use Rattle.tsd_base.specs.declared.points.PointFault.{PointFault}
use Rattle.tsd_base.specs.declared.points.PointFault.TheVariants.{Metric, Time, Value, Tags}
use Rattle.tsd_base.specs.declared.text_parts.TextParts.{TextParts}
use Rattle.tsd_base.specs.TagList.{Pair}
use Rattle.tsd_base.specs.Points.{DataPoint, ◌>>=◌, told_as, pairs_of, point_of, point_of_words, point_of_parts}
use Rattle.tsd_base.specs.Names.{name_of}
use Rattle.tsd_base.specs.Tags.{tags_of}
use Rattle.tsd_base.specs.TextParts.{HasTextParts, ReadsSeries}
use Rattle.tsd_base.specs.Times.{time_of}
use Rattle.tsd_base.specs.Values.{value_of}
use Rattle.tsd_base.specs.Words.{words_of}

pub ok_same : {A E : Type 0} (x y : A) → ◌≡◌ {A = Result A E} (Ok x) (Ok y) → x ≡ y
ok_same x y e = cc

bind_through : {A B C : Type 0} (r : Result A PointFault) (f : A → Result B PointFault) (g : B → Result C PointFault) (b : B) → (r >>= f) ≡ Ok b → (r >>= λ a. f a >>= g) ≡ g b
bind_through (Ok a) f g b e = ap (λ x. x >>= g) e
bind_through (Err e) f g b h = absurd cc

bind_ok : {A B : Type 0} (r : Result A PointFault) (f : A → Result B PointFault) (b : B) → (r >>= f) ≡ Ok b → (a : A) × (r ≡ Ok a) × (f a ≡ Ok b)
bind_ok (Ok a) f b e = (a, refl, e)
bind_ok (Err e) f b h = absurd cc

told_ok : {A E : Type 0} (fault : E → PointFault) (r : Result A E) (a : A) → told_as fault r ≡ Ok a → r ≡ Ok a
told_ok fault (Ok x) a e = ap (λ y. Ok y) (ok_same x a e)
told_ok fault (Err e) a h = absurd cc

-- the tags of words
abbrev tags_in : List (List ℕ) → Result (List Pair) PointFault
tags_in words = pairs_of 1 words >>= λ pairs. told_as Tags (tags_of pairs)

-- no words are no tags
no_tags : (pairs : List Pair) → tags_in [] ≡ Ok pairs → ⊥
unfolding pairs_of tags_of
no_tags pairs e = cc

-- a metric, a time, a value and tags, each of which reads
parts_read : (metric time value : List ℕ) (words : List (List ℕ)) (name : List ℕ) (moment : ℕ × Bool) (number : ℤ) (pairs : List Pair) → name_of metric ≡ Ok name → time_of time ≡ Ok moment → value_of value ≡ Ok number → tags_in words ≡ Ok pairs
    → point_of_parts metric time value words ≡ Ok (record { metric = name; tags = pairs; time = moment.0; fine = moment.1; value = number })
unfolding point_of_parts
parts_read metric time value words name moment number pairs n t v p =
    rw (n, t, v) (bind_through (pairs_of 1 words) (λ ps. told_as Tags (tags_of ps)) (λ all. Ok (record { metric = name; tags = all; time = moment.0; fine = moment.1; value = number })) pairs p)

words_read : (metric time value : List ℕ) (words : List (List ℕ)) (name : List ℕ) (moment : ℕ × Bool) (number : ℤ) (pairs : List Pair) → name_of metric ≡ Ok name → time_of time ≡ Ok moment → value_of value ≡ Ok number → tags_in words ≡ Ok pairs
    → point_of_words (metric ∷ time ∷ value ∷ words) ≡ Ok (record { metric = name; tags = pairs; time = moment.0; fine = moment.1; value = number })
words_read metric time value [] name moment number pairs n t v p = absurd (no_tags pairs p)
words_read metric time value (w ∷ ws) name moment number pairs n t v p = parts_read metric time value (w ∷ ws) name moment number pairs n t v p

-- what the parts of a point that was read are
record PartsOf (metric time : List ℕ) (words : List (List ℕ)) (p : DataPoint) : Type 0 where
  pub name_is : name_of metric ≡ Ok p.metric
  pub moment : ℕ × Bool
  pub time_is : time_of time ≡ Ok moment
  pub form : moment.1 ≡ p.fine
  pub tags_are : tags_in words ≡ Ok p.tags

parts_of_point : (metric time value : List ℕ) (words : List (List ℕ)) (p : DataPoint) → point_of_parts metric time value words ≡ Ok p → PartsOf metric time words p
unfolding point_of_parts
parts_of_point metric time value words p e =
    let a = bind_ok (told_as Metric (name_of metric)) _ p e in
    let b = bind_ok (told_as (λ _. Time) (time_of time)) _ p a.2 in
    let d = bind_ok (told_as Value (value_of value)) _ p b.2 in
    let f = bind_ok (pairs_of 1 words) _ p d.2 in
    let g = bind_ok (told_as Tags (tags_of f.0)) _ p f.2 in
    let same = ok_same _ p g.2 in record {
      name_is = told_ok Metric (name_of metric) p.metric (a.1 ∙ ap (λ (q : DataPoint). Ok q.metric) same);
      moment = b.0;
      time_is = told_ok (λ _. Time) (time_of time) b.0 b.1;
      form = ap (λ (q : DataPoint). q.fine) same;
      tags_are = ap (λ r. r >>= λ pairs. told_as Tags (tags_of pairs)) f.1 ∙ g.1 ∙ ap (λ (q : DataPoint). Ok q.tags) same;
    }

words_of_point : (metric time value : List ℕ) (words : List (List ℕ)) (p : DataPoint) → point_of_words (metric ∷ time ∷ value ∷ words) ≡ Ok p → PartsOf metric time words p
words_of_point metric time value [] p e = absurd cc
words_of_point metric time value (w ∷ ws) p e = parts_of_point metric time value (w ∷ ws) p e

-- a text whose parts read as a series is its point
pub text_reads : (text : List ℕ) (parts : TextParts) (name : List ℕ) (pairs : List Pair) → HasTextParts text parts → ReadsSeries parts.metric.now parts.tags.now name pairs
    → point_of text ≡ Ok (record { metric = name; tags = pairs; time = parts.time; fine = parts.fine; value = parts.value })
text_reads text parts name pairs h r = ap point_of_words h.words ∙ words_read parts.metric.now h.time_text h.value_text (words_of parts.tags.now) name (parts.time, parts.fine) parts.value pairs r.name_is h.time_is h.value_is r.tags_are

-- and the parts of a point's text read as its series, in the form of its time
pub series_reads : (text : List ℕ) (parts : TextParts) (p : DataPoint) → HasTextParts text parts → point_of text ≡ Ok p → ReadsSeries parts.metric.now parts.tags.now p.metric p.tags × (parts.fine ≡ p.fine)
series_reads text parts p h e =
    let w = words_of_point parts.metric.now h.time_text h.value_text (words_of parts.tags.now) p (sym (ap point_of_words h.words) ∙ e) in
    let same : (parts.time, parts.fine) ≡ w.moment = ok_same _ _ (sym h.time_is ∙ w.time_is) in
    (record { name_is = w.name_is; tags_are = w.tags_are }, ap (λ (m : ℕ × Bool). m.1) same ∙ w.form)
