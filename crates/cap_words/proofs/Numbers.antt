-- Numbers in bytes, the lowest first: what was read is spelled so, and what is spelled so is read.
use Rattle.std.proofs.Common.{◌≡◌, ℕ, zero, suc, ◌+◌, ◌*◌, ◌/◌, ◌%◌, ◌^◌, ◌<◌, List, [], ◌∷◌, length, refl}
use Rattle.std.proofs.Common.{sym, ap, ◌∙◌, append-nil, arith}
use Rattle.std.proofs.Math.Nat.{div-div-eq-div-mul, div-one, pow-succ'}
use Rattle.std.specs.Int.{byte_at, bytes_low_first}
use Rattle.byteorder.specs.Endian.{little_from, little_number, little_bytes}
use Rattle.byteorder.specs.Numbers.{little_from-cons, little_number-reads_back}
use Rattle.cap_words.proofs.ByteReads.{IsBytes}

-- a byte of a number, by its place
byte_is : (k x : ℕ) → byte_at k x ≡ x / 256 ^ k % 256
byte_is zero x = ap (λ (y : ℕ). y % 256) (sym (div-one x))
byte_is (suc k) x = refl

-- the bytes above the lowest are those of the number without it
bytes_above : (k n x : ℕ) → bytes_low_first (suc k) n x ≡ bytes_low_first k n (x / 256)
bytes_above k zero x = refl
bytes_above k (suc n) x =
    let shift : x / 256 ^ suc k ≡ x / 256 / 256 ^ k = ap (λ (p : ℕ). x / p) (pow-succ' 256 k)
    ∙ sym (div-div-eq-div-mul x 256 (256 ^ k)) in
    let first : byte_at (suc k) x ≡ byte_at k (x / 256) = ap (λ (y : ℕ). y % 256) shift
    ∙ sym (byte_is k (x / 256)) in
    rw (first, bytes_above (suc k) n x) refl

pub spelled_again : (len : ℕ) (bytes : List ℕ) → length bytes ≡ len → IsBytes bytes
    → little_bytes len (little_number len bytes) ≡ bytes
spelled_again zero [] e h = refl
spelled_again zero (b ∷ bytes) e h = absurd (omega arith)
spelled_again (suc len) [] e h = absurd (omega arith)
spelled_again (suc len) (b ∷ bytes) e h =
    let low : b < 256 = h 0 in
    let rest = little_number len bytes in
    let others : little_from 1 len (b ∷ bytes) ≡ rest = little_from-cons 0 len b bytes in
    let again = spelled_again len bytes (omega arith) (λ i. h (suc i)) in
    let first : (b + 256 * rest) % 256 ≡ b = omega arith in
    let above : (b + 256 * rest) / 256 ≡ rest = omega arith in
    rw (others, bytes_above 0 len (b + 256 * rest), first, above, again) refl

pub read_again : (len n : ℕ) → n < 256 ^ len → little_number len (little_bytes len n) ≡ n
read_again len n fits = sym (ap (little_number len) (append-nil (little_bytes len n)))
    ∙ little_number-reads_back len n [] fits
