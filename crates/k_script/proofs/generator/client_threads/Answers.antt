use Rattle.std.proofs.Common.{◌≡◌, ℕ, ◌+◌, List, [], ◌∷◌, ◌++◌, map, ap, sym, ◌∙◌, arith}
use Rattle.std.specs.List.{range_with_len}
use Rattle.std.proofs.lemmas.List.FromFn.{map-range_with_len_more}
use Rattle.k_script.specs.declared.lines.ThreadLine.{ThreadLine}
use Rattle.k_script.specs.Big.{state_after, client_thread}
use Rattle.k_script.proofs.generator.client_threads.Goals as goal

-- a thread of this priority
abbrev line : ℕ → ℕ → ThreadLine
line index draw = record { priority = 1 + draw; program = index + 1 }

pub loop-index-preserved : goal.loop-index-preserved
loop-index-preserved c = record {
  threads = λ number h.
      let e : 0 + c.loop-index.index ≡ c.loop-index.index = omega arith in
      c.in_ok-push.ensures.items
      ∙ ap (λ (xs : List ThreadLine). xs ++ line c.loop-index.index c.draw.result ∷ []) (c.loop-index.invariant.threads number h)
      ∙ ap (λ (k : ℕ). map (client_thread number) (range_with_len 0 c.loop-index.index) ++ line c.loop-index.index k ∷ []) (c.draw.ensures.drawn number (32 + c.loop-index.index) (c.loop-index.invariant.state number h))
      ∙ sym (map-range_with_len_more (client_thread number) 0 c.loop-index.index c.loop-index.index e);
  state = λ number h.
      let e : (32 + c.loop-index.index) + 1 ≡ 32 + (c.loop-index.index + 1) = omega arith in
      c.draw.ensures.state number (32 + c.loop-index.index) (c.loop-index.invariant.state number h) ∙ ap (state_after number) e;
}
