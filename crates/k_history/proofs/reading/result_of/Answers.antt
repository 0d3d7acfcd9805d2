use Rattle.std.proofs.Common.{◌≡◌, ◌+◌, List, map, position, sym, ap, ◌∙◌, Option, Some, None}
use Rattle.std.proofs.lemmas.List.{take-map, drop-map}
use Rattle.k_text.specs.Texts.{Word}
use Rattle.k_history.specs.Reading.{is_arrow, result_of, result_at}
use Rattle.k_lists.proofs.Cuts.{rest_at}
use Rattle.k_lists.proofs.Positions.{position_map}
use Rattle.k_history.proofs.reading.result_of.Goals as goal

-- what the place of the arrow makes of the words
cut : {X : Type 0} (f : X → Word) (ws : List X) (o : Option _) → o ≡ position (λ w. is_arrow (f w)) ws → result_at (map f ws) o ≡ result_of (map f ws)
unfolding result_of
cut f ws o e = ap (result_at (map f ws)) (e ∙ sym (position_map f is_arrow ws))

pub returns-in-None : goal.returns-in-None
returns-in-None c = c.silent_of.ensures ∙ cut (λ w. w.now) c.args.words.now None (sym c.in-None.is ∙ c.arrow_at.ensures.place)

pub returns-in-Some : goal.returns-in-Some
returns-in-Some c =
    let ws = c.args.words.now in
    let at = c.in-Some.at in
    c.spoken_of.ensures ∙ rw (rest_at ws (at + 1), ← take-map (λ w. w.now) at ws, ← drop-map (λ w. w.now) (at + 1) ws) (cut (λ w. w.now) ws (Some at) (sym c.in-Some.is ∙ c.arrow_at.ensures.place))
