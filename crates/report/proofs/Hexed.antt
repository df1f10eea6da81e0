-- Hexadecimal text is made byte by byte.
use Rattle.std.proofs.Common.{◌≡◌, ℕ, zero, suc, ◌/◌, ◌%◌, ◌<◌, Bool, true, false, ◌&&◌, eqb, List, [], ◌∷◌, get_or, refl, arith}
use Rattle.std.proofs.lemmas.Bool.Decides.{Decides-below_and, Decides-eqb}
use Rattle.std.specs.Fmt.{digit_glyph}
use Rattle.std.specs.List.{flat_map}
use Rattle.hex.specs.Hex.{lower_digits, encode_with, encode_lower}
use Rattle.report.specs.Lines.{hexed}

-- computed at all sixteen digits
abbrev alike : ℕ → Bool
alike zero = true
alike (suc n) = eqb (get_or lower_digits n 0) (digit_glyph false n) && alike n

all_alike : alike 16 ≡ true
all_alike = refl

digit : (n : ℕ) → n < 16 → get_or lower_digits n 0 ≡ digit_glyph false n
digit = (Decides-below_and (λ n. eqb (get_or lower_digits n 0) (digit_glyph false n)) (λ n. get_or lower_digits n 0 ≡ digit_glyph false n) alike (λ n. Decides-eqb _ _) refl (λ _. refl) 16).0 all_alike

pub encoded_hexed : (bytes : List ℕ) → ((k : ℕ) → get_or bytes k 0 < 256) → encode_lower bytes ≡ flat_map hexed bytes
unfolding encode_with
encoded_hexed [] small = refl
encoded_hexed (b ∷ bytes) small =
    let high = digit (b / 16) (omega (arith, small 0)) in
    let low = digit (b % 16) (omega arith) in
    let rest = encoded_hexed bytes (λ k. small (suc k)) in
    λ i. high i ∷ low i ∷ rest i
