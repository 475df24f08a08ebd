-- An image is taken of a source piece by piece.
use Rattle.std.proofs.Common.{◌≡◌, ℕ, zero, suc, ◌+◌, ◌-◌, ◌^◌, ◌<◌, ◌≤◌, true, false, cond, List, [], ◌++◌, length, refl, sym, ap, subst, ◌∙◌, append_assoc, append-nil, arith, length-append}
use Rattle.std.specs.Prelude.{Option, Result, Ok, Err, nat_eq}
use Rattle.std.specs.Io.KnownBytes.{Appends, Consumes, IsAtEnd}
use Rattle.std.proofs.lemmas.Bool.Decides.{nat_tests}
use Rattle.std.proofs.KnownBytes.{Appends-trans, Consumes-trans}
use Rattle.cell_model.specs.declared.row.ListLine.{ListLine}
use Rattle.cell_model.specs.declared.row.Listing.{Listing}
use Rattle.cell_image.specs.Images.{width_bytes}
use Rattle.cell_image.specs.ImageReads.{◌>>=◌, Fails, Spot, cells_read, head_read, image_by, image_read, moved, next_cell}
use Rattle.cell_image.specs.ImageTakes.{Ended, Ends, Refuses, TakesBy, TakesImage, TakesMore, Tells, is_cut, nothing, taken_to, with_more}
use Rattle.cell_image.specs.declared.image_fault.ImageFault.{ImageFault}
use Rattle.cell_image.specs.declared.image_fault.ImageFault.TheVariants.{CutShort, BadMark, BadWidths, BadTable, EmptyPart, NotRising, Trailing, OutOfMemory}
use Rattle.cell_image.specs.declared.image_stream.TakeImageFault.{TakeImageFault}
use Rattle.cell_image.specs.declared.image_stream.TakeImageFault.TheVariants.{Image, Input}
use Rattle.cell_image.proofs.Growing.{Grows, IfCertain, IsBehind, behind_is, behind_taken}
use Rattle.cell_image.proofs.ReadTurns.{left_to_read, with_cells}

-- ---- what was read is used up
module _ {B : Type 0} (read : Spot → Result (B × Spot) ImageFault) (s b : Spot) (x : B) (grows : Grows s [] (read s) (read (with_more s []))) (e : read s ≡ Ok (x, b)) where
  behind : IsBehind s b
  behind = (subst (λ (r : Result (B × Spot) ImageFault). Grows s [] r (read (with_more s []))) e grows).1

  pub used_up : (u : Spot) (end : ℕ) → end ≡ b.at → u ≡ moved (end - s.at) s → read s ≡ Ok (x, u)
  used_up u end at is = e ∙ ap (λ t. Ok (x, t)) (sym (is ∙ ap (λ n. moved (n - s.at) s) at ∙ behind_is s b behind))

-- ---- what was taken so far of one field's or one cell's bytes
pub record HasTaken (taken taken' left left' : Option (List ℕ)) (old new : Spot) : Type 0 where
  pub more : List ℕ
  pub takes : Appends taken taken' more
  pub leaves : Consumes left left' more
  pub is : new ≡ with_more old more

no_more : (s : Spot) → s ≡ with_more s []
no_more s = λ i. record { at = s.at; bytes = sym (append-nil s.bytes) i }

more_twice : (s : Spot) (xs ys : List ℕ) → with_more (with_more s xs) ys ≡ with_more s (xs ++ ys)
more_twice s xs ys = λ i. record { at = s.at; bytes = append_assoc s.bytes xs ys i }

module _ (taken taken' taken'' left left' left'' : Option (List ℕ)) (old mid new : Spot) (h : HasTaken taken taken' left left' old mid) where
  both_are : (more : List ℕ) → with_more mid more ≡ with_more old (h.more ++ more)
  both_are more = ap (λ r. with_more r more) h.is ∙ more_twice old h.more more

  -- a piece more
  pub taken_on : (fault : ImageFault) {x : Unit {0}} → TakesMore fault taken' taken'' left' left'' mid (Ok x) new → HasTaken taken taken'' left left'' old new
  taken_on fault p = record {
    more = h.more ++ p.more;
    takes = Appends-trans taken taken' taken'' h.more p.more h.takes p.takes;
    leaves = Consumes-trans left left' left'' h.more p.more h.leaves p.leaves;
    is = p.is.0 ∙ both_are p.more;
  }

  -- a fault stands, or the bytes weren't taken to their end
  pub not_read : {A B : Type 0} (view : A → B) (read : Spot → Result (B × Spot) ImageFault) (fault : ImageFault) (told : TakeImageFault) (last : Spot) → ((later : List ℕ) → Grows mid later (read mid) (read (with_more mid later)))
      → Fails fault (read mid) → TakesMore fault taken' taken'' left' left'' mid (Err told) new → TakesBy {A = A} view read taken taken'' left left'' old (Err told) last
  not_read {A = A} view read fault (Image told) last grows fails p = record {
    more = h.more ++ p.more;
    takes = Appends-trans taken taken' taken'' h.more p.more h.takes p.takes;
    leaves = Consumes-trans left left' left'' h.more p.more h.leaves p.leaves;
    tells = subst (λ (f : ImageFault). Tells {A = A} view read left'' (with_more old (h.more ++ p.more)) (Err (Image f)) last) (sym p.is.0)
        (subst (λ (s : Spot). Refuses (λ bytes. read (record { at = s.at; bytes = bytes })) left'' s.bytes fault) (no_more mid ∙ ap (with_more mid) (sym p.is.1) ∙ both_are p.more) (certainly fault fails p.is.2));
  }
    where
      grown : (f : ImageFault) → read mid ≡ Err f → (later : List ℕ) → IfCertain f (read (with_more mid later) ≡ Err f)
      grown f e later = subst (λ r. Grows mid later r (read (with_more mid later))) e (grows later)

      certainly : (f : ImageFault) → Fails f (read mid) → (is_cut f ≡ true → IsAtEnd left'') → Refuses (λ bytes. read (record { at = mid.at; bytes = bytes })) left'' mid.bytes f
      certainly (CutShort place) e ended = (ended refl, e)
      certainly BadMark e ended = grown BadMark e
      certainly BadWidths e ended = grown BadWidths e
      certainly (BadTable place) e ended = grown (BadTable place) e
      certainly (EmptyPart place) e ended = grown (EmptyPart place) e
      certainly (NotRising place) e ended = grown (NotRising place) e
      certainly (Trailing place) e ended = grown (Trailing place) e
      certainly OutOfMemory e ended = tt
  not_read {A = A} view read fault (Input why) last grows fails p = record {
    more = h.more ++ p.more;
    takes = Appends-trans taken taken' taken'' h.more p.more h.takes p.takes;
    leaves = Consumes-trans left left' left'' h.more p.more h.leaves p.leaves;
    tells = subst (λ (s : Spot). Ended (taken_to s) why) (both_are p.more) p.is;
  }

module _ (taken taken' left left' : Option (List ℕ)) (old mid : Spot) (h : HasTaken taken taken' left left' old mid) where
  -- it was read
  pub reads_on : {A B : Type 0} (view : A → B) (read : Spot → Result (B × Spot) ImageFault) (x : A) (new : Spot) → ((later : List ℕ) → Grows mid later (read mid) (read (with_more mid later))) → read mid ≡ Ok (view x, new)
      → TakesBy view read taken taken' left left' old (Ok x) new
  reads_on view read x new grows e = record {
    more = h.more;
    takes = h.takes;
    leaves = h.leaves;
    tells = subst (λ (s : Spot). Tells view read left' s (Ok x) new) h.is ((λ later. (grown later).0), behind_taken mid new (grown []).1);
  }
    where
      grown : (later : List ℕ) → Grows mid later (Ok (view x, new)) (read (with_more mid later))
      grown later = subst (λ r. Grows mid later r (read (with_more mid later))) e (grows later)

-- where the spot is named otherwise
pub more_on : (taken taken' taken'' left left' left'' : Option (List ℕ)) (old cur mid new : Spot) → HasTaken taken taken' left left' old cur → mid ≡ cur → (fault : ImageFault) (x : Unit {0}) → TakesMore fault taken' taken'' left' left'' mid (Ok x) new
    → HasTaken taken taken'' left left'' old new
more_on taken taken' taken'' left left' left'' old cur mid new h same fault x p = taken_on taken taken' taken'' left left' left'' old mid new (subst (HasTaken taken taken' left left' old) (sym same) h) fault p

pub not_on : {A B : Type 0} (view : A → B) (read : Spot → Result (B × Spot) ImageFault) (taken taken' taken'' left left' left'' : Option (List ℕ)) (old cur mid new : Spot) → HasTaken taken taken' left left' old cur → mid ≡ cur → (fault : ImageFault) (told : TakeImageFault) (last : Spot)
    → ((s : Spot) (later : List ℕ) → Grows s later (read s) (read (with_more s later))) → Fails fault (read cur) → TakesMore fault taken' taken'' left' left'' mid (Err told) new → TakesBy {A = A} view read taken taken'' left left'' old (Err told) last
not_on view read taken taken' taken'' left left' left'' old cur mid new h same fault told last grows fails p =
    not_read taken taken' taken'' left left' left'' old mid new (subst (HasTaken taken taken' left left' old) (sym same) h) view read fault told last (grows mid) (subst (λ (s : Spot). Fails fault (read s)) (sym same) fails) p

-- ---- the whole
-- so much was taken, and the rest of the image is so many cells behind these
pub record IsReading (taken taken' left left' : Option (List ℕ)) (widths : List ℕ) (n : ℕ) (cells : List ListLine) (s : Spot) : Type 0 where
  pub input : List ℕ
  pub takes : Appends taken taken' input
  pub leaves : Consumes left left' input
  pub count : taken_to s ≡ length input
  pub reads : (later : List ℕ) → image_read (input ++ later) ≡ left_to_read widths n cells (with_more s later)

count_more : (s : Spot) (more input : List ℕ) → taken_to s ≡ length input → taken_to (with_more s more) ≡ length (input ++ more)
count_more s more input e = let l = length-append s.bytes more in let k = length-append input more in omega (arith, e, l, k)

-- the head was read
pub head_begins : {A : Type 0} (view : A → List ℕ × ℕ) (taken taken' left left' : Option (List ℕ)) (head : A) (new : Spot) → TakesBy view head_read taken taken' left left' nothing (Ok head) new
    → IsReading taken taken' left left' (view head).0 (view head).1 [] new
head_begins view taken taken' left left' head new p = record {
  input = p.more;
  takes = p.takes;
  leaves = p.leaves;
  count = p.tells.1 ∙ omega arith;
  reads = λ later. ap (λ r. r >>= image_by) (p.tells.0 later);
}

from_none : (n : ℕ) → 0 + n ≡ n
from_none n = omega arith

pub head_stops : {A : Type 0} (view : A → List ℕ × ℕ) (taken taken' left left' : Option (List ℕ)) (fault : TakeImageFault) (new : Spot) → TakesBy view head_read taken taken' left left' nothing (Err fault) new → TakesImage taken taken' left left' (Err fault)
head_stops view taken taken' left left' (Image fault) new p = record { input = p.more; takes = p.takes; leaves = p.leaves; gives = at fault p.tells }
  where
    at : (f : ImageFault) → Refuses (λ bytes. head_read (record { at = 0; bytes = bytes })) left' p.more f → Refuses image_read left' p.more f
    at (CutShort place) r = (r.0, ap (λ q. q >>= image_by) r.1)
    at BadMark r = λ later. ap (λ q. q >>= image_by) (r later)
    at BadWidths r = λ later. ap (λ q. q >>= image_by) (r later)
    at (BadTable place) r = λ later. ap (λ q. q >>= image_by) (r later)
    at (EmptyPart place) r = λ later. ap (λ q. q >>= image_by) (r later)
    at (NotRising place) r = λ later. ap (λ q. q >>= image_by) (r later)
    at (Trailing place) r = λ later. ap (λ q. q >>= image_by) (r later)
    at OutOfMemory r = tt
head_stops view taken taken' left left' (Input fault) new p = record { input = p.more; takes = p.takes; leaves = p.leaves; gives = subst (λ (k : ℕ). Ended k fault) (from_none (length p.more)) p.tells }

module _ (taken taken' taken'' left left' left'' : Option (List ℕ)) (widths : List ℕ) (n : ℕ) (cells : List ListLine) (s : Spot) (r : IsReading taken taken' left left' widths n cells s) where
  reads_with : (more later : List ℕ) → image_read ((r.input ++ more) ++ later) ≡ left_to_read widths n cells (with_more (with_more s more) later)
  reads_with more later = ap image_read (append_assoc r.input more later) ∙ r.reads (more ++ later) ∙ ap (left_to_read widths n cells) (sym (more_twice s more later))

  -- one more cell was read
  pub cell_on : {A : Type 0} (view : A → List ListLine) (m : ℕ) (x : A) (new : Spot) → n ≡ suc m → TakesBy view (next_cell cells) taken' taken'' left' left'' s (Ok x) new → IsReading taken taken'' left left'' widths m (view x) new
  cell_on view m x new more p = record {
    input = r.input ++ p.more;
    takes = Appends-trans taken taken' taken'' r.input p.more r.takes p.takes;
    leaves = Consumes-trans left left' left'' r.input p.more r.leaves p.leaves;
    count = p.tells.1 ∙ count_more s p.more r.input r.count;
    reads = λ later. reads_with p.more later ∙ ap (λ k. left_to_read widths k cells (with_more (with_more s p.more) later)) more
        ∙ ap (λ q. (q >>= λ c. cells_read m c.0 c.1) >>= with_cells widths) (p.tells.0 later);
  }

  pub cell_stops : {A : Type 0} (view : A → List ListLine) (m : ℕ) (fault : TakeImageFault) (new : Spot) → n ≡ suc m → TakesBy view (next_cell cells) taken' taken'' left' left'' s (Err fault) new → TakesImage taken taken'' left left'' (Err fault)
  cell_stops view m (Image fault) new more p = record {
    input = r.input ++ p.more;
    takes = Appends-trans taken taken' taken'' r.input p.more r.takes p.takes;
    leaves = Consumes-trans left left' left'' r.input p.more r.leaves p.leaves;
    gives = at fault p.tells;
  }
    where
      told : (f : ImageFault) (later : List ℕ) → next_cell cells (with_more (with_more s p.more) later) ≡ Err f → image_read ((r.input ++ p.more) ++ later) ≡ Err f
      told f later e =
          reads_with p.more later ∙ ap (λ k. left_to_read widths k cells (with_more (with_more s p.more) later)) more ∙ ap (λ q. (q >>= λ c. cells_read m c.0 c.1) >>= with_cells widths) e

      at : (f : ImageFault) → Refuses (λ bytes. next_cell cells (record { at = s.at; bytes = bytes })) left'' (s.bytes ++ p.more) f → Refuses image_read left'' (r.input ++ p.more) f
      at (CutShort place) e = (e.0, ap image_read (sym (append-nil (r.input ++ p.more))) ∙ told (CutShort place) [] (ap (next_cell cells) (sym (no_more (with_more s p.more))) ∙ e.1))
      at BadMark e = λ later. told BadMark later (e later)
      at BadWidths e = λ later. told BadWidths later (e later)
      at (BadTable place) e = λ later. told (BadTable place) later (e later)
      at (EmptyPart place) e = λ later. told (EmptyPart place) later (e later)
      at (NotRising place) e = λ later. told (NotRising place) later (e later)
      at (Trailing place) e = λ later. told (Trailing place) later (e later)
      at OutOfMemory e = tt
  cell_stops view m (Input fault) new more p = record {
    input = r.input ++ p.more;
    takes = Appends-trans taken taken' taken'' r.input p.more r.takes p.takes;
    leaves = Consumes-trans left left' left'' r.input p.more r.leaves p.leaves;
    gives = subst (λ (k : ℕ). Ended k fault) (count_more s p.more r.input r.count) p.tells;
  }

  -- all cells were read
  pub ends_so : (l : Listing) → widths ≡ width_bytes l.widths → cells ≡ l.lines → n ≡ 0 → Ends taken' taken'' left' left'' s (Ok tt) → TakesImage taken taken'' left left'' (Ok l)
  ends_so l ws cs none p = record {
    input = r.input ++ p.more;
    takes = Appends-trans taken taken' taken'' r.input p.more r.takes p.takes;
    leaves = Consumes-trans left left' left'' r.input p.more r.leaves p.leaves;
    gives = (p.ends.0, few, whole);
  }
    where
      few : length (r.input ++ p.more) < 2 ^ 40
      few = let c = count_more s p.more r.input r.count in let b = ap length p.ends.1 in let m = p.ends.2 in omega (arith, c, b, m)

      at_end : left_to_read widths 0 cells (with_more s p.more) ≡ Ok (widths, cells)
      at_end = ap (λ bytes. left_to_read widths 0 cells (record { at = s.at; bytes = bytes })) p.ends.1

      whole : image_read (r.input ++ p.more) ≡ Ok (width_bytes l.widths, l.lines)
      whole = r.reads p.more ∙ ap (λ k. left_to_read widths k cells (with_more s p.more)) none ∙ at_end ∙ (λ i. Ok (ws i, cs i))

  pub ends_not : (fault : TakeImageFault) → n ≡ 0 → Ends taken' taken'' left' left'' s (Err fault) → TakesImage taken taken'' left left'' (Err fault)
  ends_not (Image fault) none p = record {
    input = r.input ++ p.more;
    takes = Appends-trans taken taken' taken'' r.input p.more r.takes p.takes;
    leaves = Consumes-trans left left' left'' r.input p.more r.leaves p.leaves;
    gives = subst (Refuses image_read left'' (r.input ++ p.more)) (sym p.ends.0) (λ later. reads_with p.more later ∙ ap (λ k. left_to_read widths k cells (with_more (with_more s p.more) later)) none ∙ trailing ((s.bytes ++ p.more) ++ later) (long later));
  }
    where
      long : (later : List ℕ) → 1 ≤ length ((s.bytes ++ p.more) ++ later)
      long later = let l = length-append (s.bytes ++ p.more) later in let m = p.ends.1 in omega (arith, l, m)

      trailing : (bytes : List ℕ) → 1 ≤ length bytes → left_to_read widths 0 cells (record { at = s.at; bytes = bytes }) ≡ Err (Trailing s.at)
      trailing bytes some = ap (λ b. cond b (Ok cells) (Err (Trailing s.at)) >>= with_cells widths) (is_some (length bytes) some)
        where
          is_some : (k : ℕ) → 1 ≤ k → nat_eq k 0 ≡ false
          is_some zero l = absurd (omega (arith, l))
          is_some (suc k) l = grind (arith, nat_tests)
  ends_not (Input fault) none p = record {
    input = r.input ++ p.more;
    takes = Appends-trans taken taken' taken'' r.input p.more r.takes p.takes;
    leaves = Consumes-trans left left' left'' r.input p.more r.leaves p.leaves;
    gives = subst (λ (k : ℕ). Ended k fault) (count_more s p.more r.input r.count) p.ends;
  }
