-- Arrays among bytes, and the numbers that they spell.
use Rattle.std.proofs.Common.{◌≡◌, ℕ, zero, suc, ◌+◌, ◌*◌, ◌<◌, ◌≤◌, List, [], get_or, take, drop, slice_index, refl, ap, ◌∙◌, arith, w16, w32, w64, to_z}
use Rattle.std.proofs.lemmas.List.{get_or-take, get_or-drop, drop-drop}
use Rattle.std.specs.Simd.{first_chunks}
use Rattle.std.specs.Int.{from_le_bytes}
use Rattle.zone_table.specs.Bytes.{le16, le32, le64}

-- the chunk at a place
pub first_chunks-at : {X : Type 0} (n k : ℕ) (xs : List X) (i : ℕ) → i < k → get_or (first_chunks n k xs) i [] ≡ take n (drop (i * n) xs)
first_chunks-at n zero xs i l = absurd (omega arith)
first_chunks-at n (suc k) xs zero l = grind arith
first_chunks-at n (suc k) xs (suc i) l =
    let e : n + i * n ≡ suc i * n = grind arith in
    first_chunks-at n k (drop n xs) i (omega arith) ∙ ap (take n) (drop-drop (i * n) n xs) ∙ ap (λ m. take n (drop m xs)) e

-- the same of the elements ys from a place on
pub chunk_from : {X : Type 0} (xs ys : List X) (at n k m i : ℕ) → ys ≡ drop at xs → m ≤ k → i < m → get_or (take m (first_chunks n k ys)) i [] ≡ take n (drop (at + i * n) xs)
chunk_from xs ys at n k m i e h l = get_or-take m (first_chunks n k ys) i [] l ∙ first_chunks-at n k ys i (omega arith) ∙ ap (λ zs. take n (drop (i * n) zs)) e ∙ ap (take n) (drop-drop (i * n) at xs)

-- the byte at a place of an array
pub array_byte : (bs : List ℕ) (at n j : ℕ) → j < n → slice_index (take n (drop at bs)) j ≡ slice_index bs (at + j)
array_byte bs at n j l = get_or-take n (drop at bs) j 0 l ∙ get_or-drop at bs j 0

array_head : (bs : List ℕ) (at n : ℕ) → 0 < n → slice_index (take n (drop at bs)) 0 ≡ slice_index bs at
array_head bs at n l = let e : at + 0 ≡ at = omega arith in array_byte bs at n 0 l ∙ ap (slice_index bs) e

pub le16_first : (xs : List ℕ) → from_le_bytes w16 xs ≡ le16 xs 0
unfolding le16
le16_first xs = grind arith

pub le32_first : (xs : List ℕ) → to_z w32 (from_le_bytes w32 xs) ≡ le32 xs 0
unfolding le32
le32_first xs = grind arith

pub le64_first : (xs : List ℕ) → to_z w64 (from_le_bytes w64 xs) ≡ le64 xs 0
unfolding le64
le64_first xs = grind arith

pub le16_array : (bs : List ℕ) (at : ℕ) → le16 (take 2 (drop at bs)) 0 ≡ le16 bs at
unfolding le16
le16_array bs at = let a = array_head bs at 2 (omega arith) in let b = array_byte bs at 2 1 (omega arith) in rw (a, b) refl

pub le32_array : (bs : List ℕ) (at : ℕ) → le32 (take 4 (drop at bs)) 0 ≡ le32 bs at
unfolding le32
le32_array bs at =
    let a = array_head bs at 4 (omega arith) in
    let b = array_byte bs at 4 1 (omega arith) in
    let c = array_byte bs at 4 2 (omega arith) in
    let d = array_byte bs at 4 3 (omega arith) in
    rw (a, b, c, d) refl

pub le64_array : (bs : List ℕ) (at : ℕ) → le64 (take 8 (drop at bs)) 0 ≡ le64 bs at
unfolding le64
le64_array bs at =
    let a = array_head bs at 8 (omega arith) in
    let b = array_byte bs at 8 1 (omega arith) in
    let c = array_byte bs at 8 2 (omega arith) in
    let d = array_byte bs at 8 3 (omega arith) in
    let e = array_byte bs at 8 4 (omega arith) in
    let f = array_byte bs at 8 5 (omega arith) in
    let g = array_byte bs at 8 6 (omega arith) in
    let h = array_byte bs at 8 7 (omega arith) in
    rw (a, b, c, d, e, f, g, h) refl
