use Rattle.std.proofs.Common.{◌≡◌, ℕ, ◌+◌, List, [], ◌∷◌, ◌++◌, map, ap, sym, ◌∙◌, arith}
use Rattle.std.specs.List.{range_with_len}
use Rattle.std.proofs.lemmas.List.FromFn.{map-range_with_len_more}
use Rattle.k_script.specs.declared.lines.AtWhat.TheVariants as what
use Rattle.k_script.specs.declared.lines.AtLine.{AtLine}
use Rattle.k_script.specs.Big.{state_after, slice_line, slice_step}
use Rattle.k_script.proofs.Draws.{slice_none, slice_more}
use Rattle.k_script.proofs.generator.at_lines.Goals as goal

abbrev slice_at : ℕ → AtLine
slice_at step = record { step = step; what = what.Slice 0 }

pub loop-init : goal.loop-init
loop-init c = record {
  lines = λ number h. c.new-lines.ensures.items;
  state = λ number h. h;
  step = λ number h. sym (slice_none number);
  low = omega arith;
}

pub loop-preserved : goal.loop-preserved
loop-preserved c = record {
  lines = λ number h.
      let e : 0 + c.loop.counter ≡ c.loop.counter = omega arith in
      c.in_ok-push.ensures.items
      ∙ ap (λ (xs : List AtLine). xs ++ slice_at (c.loop.step + (1 + c.from.result)) ∷ []) (c.loop.invariant.lines number h)
      ∙ ap (λ (k : ℕ). map (slice_line number) (range_with_len 0 c.loop.counter) ++ slice_at k ∷ []) (step number h)
      ∙ sym (map-range_with_len_more (slice_line number) 0 c.loop.counter c.loop.counter e);
  state = λ number h.
      let e : (40 + c.loop.counter) + 1 ≡ 40 + (c.loop.counter + 1) = omega arith in
      c.draw.ensures.state number (40 + c.loop.counter) (c.loop.invariant.state number h) ∙ ap (state_after number) e;
  step = step;
  low = omega (arith, c.loop.invariant.low, c.draw.ensures.below, c.from.ensures);
}
  where
    step : (number : ℕ) → c.args.generator.now.state ≡ state_after number 40 → c.loop.step + (1 + c.from.result) ≡ slice_step number (c.loop.counter + 1)
    step number h =
        ap (λ (k : ℕ). k + (1 + c.from.result)) (c.loop.invariant.step number h)
        ∙ ap (λ (k : ℕ). slice_step number c.loop.counter + (1 + k)) (c.from.ensures ∙ c.draw.ensures.drawn number (40 + c.loop.counter) (c.loop.invariant.state number h))
        ∙ sym (slice_more number c.loop.counter)
