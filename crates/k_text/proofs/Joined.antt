-- The text of the first items, and of one more.
use Rattle.std.proofs.Common.{◌≡◌, ℕ, ◌+◌, ◌<◌, List, [], ◌∷◌, ◌++◌, length, get_or, take, drop, append_assoc, sym, ap, ◌∙◌}
use Rattle.std.specs.List.{flat_map}
use Rattle.std.proofs.lemmas.List.{take_more, append-nil, take-append-drop}
use Rattle.std.proofs.lemmas.List.Concat.{flat_map-append}

pub text_more : {T : Type 0} (f : T → List ℕ) (xs : List T) (i : ℕ) (x : T) → i < length xs → x ≡ get_or xs i x → flat_map f (take (i + 1) xs) ≡ flat_map f (take i xs) ++ f x
text_more f xs i x l e =
    ap (λ ys. flat_map f ys) (take_more xs i x l) ∙ flat_map-append f (take i xs) (get_or xs i x ∷ []) ∙ ap (λ (t : List ℕ). flat_map f (take i xs) ++ t) (append-nil (f (get_or xs i x)) ∙ ap f (sym e))

pub text_rest : {T : Type 0} (f : T → List ℕ) (xs : List T) (n : ℕ) → flat_map f (take n xs) ++ flat_map f (drop n xs) ≡ flat_map f xs
text_rest f xs n = sym (flat_map-append f (take n xs) (drop n xs)) ∙ ap (λ ys. flat_map f ys) (take-append-drop n xs)

-- four parts put one behind another
pub four_parts : (o a b c d : List ℕ) → (((o ++ a) ++ b) ++ c) ++ d ≡ o ++ (a ++ (b ++ (c ++ (d ++ []))))
four_parts o a b c d =
    append_assoc ((o ++ a) ++ b) c d ∙ append_assoc (o ++ a) b (c ++ d) ∙ append_assoc o a (b ++ (c ++ d))
    ∙ ap (λ (x : List ℕ). o ++ (a ++ (b ++ (c ++ x)))) (sym (append-nil d))
