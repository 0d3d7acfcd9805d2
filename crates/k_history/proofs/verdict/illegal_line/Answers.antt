use Rattle.std.proofs.Common.{◌≡◌, List, ℕ, [], ◌∷◌, ◌++◌, decimal, ap, ◌∙◌, append_assoc}
use Rattle.std.specs.Prelude.{codes}
use Rattle.std.proofs.lemmas.List.{append-nil}
use Rattle.std.proofs.lemmas.List.Concat.{flat_map-append}
use Rattle.k_text.specs.Texts.{Word, spaced, found_words, line_text}
use Rattle.k_history.proofs.verdict.illegal_line.Goals as goal

-- the words one behind another
whole : (a i f s n : List ℕ) (found : List Word) → (((((a ++ (codes " " ++ i)) ++ (codes " " ++ f)) ++ spaced found) ++ (codes " " ++ s)) ++ (codes " " ++ n)) ++ codes "\n" ≡ line_text (a ∷ i ∷ f ∷ (found ++ s ∷ n ∷ []))
whole a i f s n found = ap (λ (t : List ℕ). t ++ codes "\n") (rw (flat_map-append (λ (word : Word). codes " " ++ word) found (s ∷ n ∷ [])) (simp (append_assoc, append-nil)))

written : (o x0 x1 x2 x3 x4 x5 x6 a i f s n : List ℕ) (found : List Word) → o ≡ [] → x0 ≡ o ++ a → x1 ≡ x0 ++ (codes " " ++ i) → x2 ≡ x1 ++ (codes " " ++ f) → x3 ≡ x2 ++ spaced found → x4 ≡ x3 ++ (codes " " ++ s) → x5 ≡ x4 ++ (codes " " ++ n) → x6 ≡ x5 ++ codes "\n" → x6 ≡ line_text (a ∷ i ∷ f ∷ (found ++ s ∷ n ∷ []))
written o x0 x1 x2 x3 x4 x5 x6 a i f s n found eo e0 e1 e2 e3 e4 e5 e6 =
    let first : x0 ≡ a = e0 ∙ ap (λ (t : List ℕ). t ++ a) eo in
    e6 ∙ ap (λ (t : List ℕ). t ++ codes "\n") (e5 ∙ ap (λ (t : List ℕ). t ++ (codes " " ++ n)) (e4 ∙ ap (λ (t : List ℕ). t ++ (codes " " ++ s)) (e3 ∙ ap (λ (t : List ℕ). t ++ spaced found) (e2 ∙ ap (λ (t : List ℕ). t ++ (codes " " ++ f)) (e1 ∙ ap (λ (t : List ℕ). t ++ (codes " " ++ i)) first)))))
    ∙ whole a i f s n found

pub returns : goal.returns
returns c =
    written c.new-line.result c.push.new.self c.push_number.new.self c.push_word.new.self c.push_found.new.self c.push_word-2.new.self c.push_number-2.new.self c.end.new.self
    (codes "illegal") (decimal c.args.index) (codes "found") (codes "serial") (decimal c.args.serial) (found_words c.args.found)
    c.new-line.ensures c.push.ensures.text c.push_number.ensures.text c.push_word.ensures.text c.push_found.ensures.text c.push_word-2.ensures.text c.push_number-2.ensures.text c.end.ensures.text
