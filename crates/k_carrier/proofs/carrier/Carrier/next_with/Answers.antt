use Rattle.std.proofs.Common.{cond, Bool, sym, ap, ◌∙◌, subst, ◌≡◌}
use Rattle.k_carrier.specs.Asked.{PutDown, Run, ask_holding, asked_by, move_by}
use Rattle.k_carrier.specs.Conditions.{CanMove, IsSound}
use Rattle.k_carrier.specs.Seen.{hand_in, holding}
use Rattle.k_carrier.proofs.Sound.{put_down_sound}
use Rattle.k_carrier.proofs.carrier.Carrier.next_with.Goals as goal

pub run-requires-clause-open : goal.run-requires-clause-open
run-requires-clause-open c =
    let s = c.args.script.now in
    let k = holding s c.args.self.now c.args.hand in
    let h = hand_in s c.args.hand in
    let runs : ask_holding k h ≡ Run h = ap (λ (b : Bool). cond b (PutDown h) (Run h)) (sym (c.gives.ensures s) ∙ c.if-gives.false) in
    (subst (CanMove s k) runs c.requires.can).0

pub run-requires-clause-room : goal.run-requires-clause-room
run-requires-clause-room c =
    let s = c.args.script.now in
    let k = holding s c.args.self.now c.args.hand in
    let h = hand_in s c.args.hand in
    let runs : ask_holding k h ≡ Run h = ap (λ (b : Bool). cond b (PutDown h) (Run h)) (sym (c.gives.ensures s) ∙ c.if-gives.false) in
    (subst (CanMove s k) runs c.requires.can).1

pub put_down-requires-clause-can : goal.put_down-requires-clause-can
put_down-requires-clause-can c =
    let s = c.args.script.now in
    let k = holding s c.args.self.now c.args.hand in
    let h = hand_in s c.args.hand in
    let gives : ask_holding k h ≡ PutDown h = ap (λ (b : Bool). cond b (PutDown h) (Run h)) (sym (c.gives.ensures s) ∙ c.if-gives.true) in
    subst (CanMove s k) gives c.requires.can

pub returns-then-gives-clause-asked : goal.returns-then-gives-clause-asked
returns-then-gives-clause-asked c =
    let s = c.args.script.now in
    let k = holding s c.args.self.now c.args.hand in
    let h = hand_in s c.args.hand in
    let gives : ask_holding k h ≡ PutDown h = ap (λ (b : Bool). cond b (PutDown h) (Run h)) (sym (c.gives.ensures s) ∙ c.if-gives.true) in
    c.put_down.ensures.asked ∙ ap (move_by s k) (sym gives)

pub returns-then-gives-clause-carrier : goal.returns-then-gives-clause-carrier
returns-then-gives-clause-carrier c =
    let s = c.args.script.now in
    let k = holding s c.args.self.now c.args.hand in
    let h = hand_in s c.args.hand in
    let gives : ask_holding k h ≡ PutDown h = ap (λ (b : Bool). cond b (PutDown h) (Run h)) (sym (c.gives.ensures s) ∙ c.if-gives.true) in
    c.put_down.ensures.carrier ∙ ap (asked_by s k) (sym gives)

pub returns-then-gives-clause-sound : goal.returns-then-gives-clause-sound
returns-then-gives-clause-sound c =
    let s = c.args.script.now in
    let k = holding s c.args.self.now c.args.hand in
    let h = hand_in s c.args.hand in
    let gives : ask_holding k h ≡ PutDown h = ap (λ (b : Bool). cond b (PutDown h) (Run h)) (sym (c.gives.ensures s) ∙ c.if-gives.true) in
    subst (IsSound s) (sym c.put_down.ensures.carrier) (put_down_sound s k h c.requires.sound (subst (CanMove s k) gives c.requires.can))

pub returns-else-gives-clause-asked : goal.returns-else-gives-clause-asked
returns-else-gives-clause-asked c =
    let s = c.args.script.now in
    let k = holding s c.args.self.now c.args.hand in
    let h = hand_in s c.args.hand in
    let runs : ask_holding k h ≡ Run h = ap (λ (b : Bool). cond b (PutDown h) (Run h)) (sym (c.gives.ensures s) ∙ c.if-gives.false) in
    c.run.ensures.asked ∙ ap (move_by s k) (sym runs)

pub returns-else-gives-clause-carrier : goal.returns-else-gives-clause-carrier
returns-else-gives-clause-carrier c =
    let s = c.args.script.now in
    let k = holding s c.args.self.now c.args.hand in
    let h = hand_in s c.args.hand in
    let runs : ask_holding k h ≡ Run h = ap (λ (b : Bool). cond b (PutDown h) (Run h)) (sym (c.gives.ensures s) ∙ c.if-gives.false) in
    c.run.ensures.carrier ∙ ap (asked_by s k) (sym runs)
