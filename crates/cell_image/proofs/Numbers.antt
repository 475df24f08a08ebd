-- Numbers of one, two, four and eight bytes, the highest first.
use Rattle.std.proofs.Common.{◌≡◌, ℕ, zero, suc, ◌^◌, ◌<◌, List, [], ◌∷◌, length, get_or, refl, ap, arith}
use Rattle.std.specs.Int.{Width, w8, w16, w32, w64, byte_len, bytes_high_first, from_be_bytes, to_be_bytes}
use Rattle.std.proofs.lemmas.Nat.{be_bytes_2, be_bytes_4, be_bytes_8, from_be_bytes-to_be_bytes_2, from_be_bytes-to_be_bytes_4, from_be_bytes-to_be_bytes_8}
use Rattle.hex.specs.Hex.{IsBytes}

-- what holds of the numbers of a width
pub record IsNumber (w : Width) : Type 0 where
  pub back : (n : ℕ) → n < 256 ^ byte_len w → from_be_bytes w (to_be_bytes w n) ≡ n
  pub again : (bytes : List ℕ) → length bytes ≡ byte_len w → IsBytes bytes → to_be_bytes w (from_be_bytes w bytes) ≡ bytes
  pub fits : (bytes : List ℕ) → length bytes ≡ byte_len w → IsBytes bytes → from_be_bytes w bytes < 256 ^ byte_len w

high_length : (k n : ℕ) → length (bytes_high_first k n) ≡ k
high_length zero n = refl
high_length (suc k) n = let e = high_length k n in omega (arith, e)

pub length-to_be_bytes : (w : Width) (n : ℕ) → length (to_be_bytes w n) ≡ byte_len w
length-to_be_bytes w n = high_length (byte_len w) n

one_again : (bytes : List ℕ) → length bytes ≡ 1 → IsBytes bytes → to_be_bytes w8 (from_be_bytes w8 bytes) ≡ bytes
one_again [] e is = absurd (omega (arith, e))
one_again (b ∷ []) e is = let fits : b < 256 = is 0 in ap (λ n. n ∷ []) (omega (arith, fits))
one_again (b ∷ c ∷ bytes) e is = absurd (omega (arith, e))

pub one : IsNumber w8
one = record {
  back = λ n fits. omega (arith, fits);
  again = one_again;
  fits = λ bytes e is. let a : get_or bytes 0 0 < 256 = is 0 in omega (arith, a);
}

pub two : IsNumber w16
two = record {
  back = from_be_bytes-to_be_bytes_2;
  again = λ bytes e is. be_bytes_2 bytes (from_be_bytes w16 bytes) e is refl;
  fits = λ bytes e is. let a : get_or bytes 0 0 < 256 = is 0 in let b : get_or bytes 1 0 < 256 = is 1 in omega (arith, a, b);
}

pub four : IsNumber w32
four = record {
  back = from_be_bytes-to_be_bytes_4;
  again = λ bytes e is. be_bytes_4 bytes (from_be_bytes w32 bytes) e is refl;
  fits = λ bytes e is.
      let a : get_or bytes 0 0 < 256 = is 0 in
      let b : get_or bytes 1 0 < 256 = is 1 in
      let c : get_or bytes 2 0 < 256 = is 2 in
      let d : get_or bytes 3 0 < 256 = is 3 in
      omega (arith, a, b, c, d);
}

pub eight : IsNumber w64
eight = record {
  back = from_be_bytes-to_be_bytes_8;
  again = λ bytes e is. be_bytes_8 bytes (from_be_bytes w64 bytes) e is refl;
  fits = λ bytes e is.
      let a : get_or bytes 0 0 < 256 = is 0 in
      let b : get_or bytes 1 0 < 256 = is 1 in
      let c : get_or bytes 2 0 < 256 = is 2 in
      let d : get_or bytes 3 0 < 256 = is 3 in
      let e : get_or bytes 4 0 < 256 = is 4 in
      let f : get_or bytes 5 0 < 256 = is 5 in
      let g : get_or bytes 6 0 < 256 = is 6 in
      let h : get_or bytes 7 0 < 256 = is 7 in
      omega (arith, a, b, c, d, e, f, g, h);
}
