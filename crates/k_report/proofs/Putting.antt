-- A text that is put piece by piece.
use Rattle.std.proofs.Common.{◌≡◌, ℕ, List, [], ◌++◌, refl, sym, ap, subst, ◌∙◌, Option, Result, append_assoc}
use Rattle.k_outside.specs.Outside.{Appends, AppendsFront, PutsAll}
use Rattle.k_outside.proofs.Texts.{appends_more, appends_none, front_first, front_more, puts_more}
use Rattle.k_report.specs.Putting.{PutOn}

-- A front of the text was put, and this rest is still to be put.
pub record StillToPut (before now : Option (List ℕ)) (text rest : List ℕ) : Type 0 where
  pub done : List ℕ
  pub parts : text ≡ done ++ rest
  pub put : Appends before now done

pub still_begun : (a : Option (List ℕ)) (text : List ℕ) → StillToPut a a text text
still_begun a text = record { done = []; parts = refl; put = appends_none a }

pub still_put : (a b c : Option (List ℕ)) (text t rest : List ℕ) → StillToPut a b text (t ++ rest) → Appends b c t → StillToPut a c text rest
still_put a b c text t rest s p = record {
  done = s.done ++ t;
  parts = s.parts ∙ sym (append_assoc s.done t rest);
  put = appends_more a b c s.done t s.put p;
}

pub still_on : (a b c : Option (List ℕ)) (text w m v rest : List ℕ) → StillToPut a b text (w ++ (m ++ rest)) → PutOn b c w m v → StillToPut a c text (v ++ rest)
still_on a b c text w m v rest s p = record {
  done = s.done ++ p.done;
  parts = s.parts ∙ ap (λ (x : List ℕ). s.done ++ x) (sym (append_assoc w m rest) ∙ ap (λ (x : List ℕ). x ++ rest) p.parts ∙ append_assoc p.done v rest) ∙ sym (append_assoc s.done p.done (v ++ rest));
  put = appends_more a b c s.done p.done s.put p.put;
}

pub still_front : (a b c : Option (List ℕ)) (text t rest : List ℕ) → StillToPut a b text (t ++ rest) → AppendsFront b c t → AppendsFront a c text
still_front a b c text t rest s f = subst (λ (x : List ℕ). AppendsFront a c x) (sym s.parts) (front_more a b c s.done (t ++ rest) s.put (front_first b c t rest f))

pub still_last : {T E : Type 0} (a b c : Option (List ℕ)) (r : Result T E) (text rest : List ℕ) → StillToPut a b text rest → PutsAll b c r rest → PutsAll a c r text
still_last a b c r text rest s p = subst (λ (x : List ℕ). PutsAll a c r x) (sym s.parts) (puts_more a b c r s.done rest s.put p)
