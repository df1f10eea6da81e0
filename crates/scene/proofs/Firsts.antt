-- Which check strikes first: there is one at most, and a list of checks is taken apart and put together.
use Rattle.std.proofs.Common.{◌≡◌, List, [], ◌∷◌, ◌++◌, sym, ap, ◌∙◌, inl, inr}
use Rattle.scene.specs.Checks.{Check, First, Clear, raised}

-- the first check that strikes is one
pub first_same : {C : Type 0} (cs : List (Check C)) (a b : C) → First cs a → First cs b → a ≡ b
first_same [] a b f g = absurd f
first_same (c ∷ cs) a b (inl f) (inl g) = sym f.0 ∙ g.0
first_same (c ∷ cs) a b (inl f) (inr g) = absurd (g.0 f.1)
first_same (c ∷ cs) a b (inr f) (inl g) = absurd (f.0 g.1)
first_same (c ∷ cs) a b (inr f) (inr g) = first_same cs a b f.1 g.1

-- and none strikes where they are clear
pub not_first : {C : Type 0} (cs : List (Check C)) (a : C) → Clear cs → First cs a → ⊥
not_first [] a k f = f
not_first (c ∷ cs) a k (inl f) = k.0 f.1
not_first (c ∷ cs) a k (inr f) = not_first cs a k.1 f.1

-- one that strikes in a list strikes with more checks behind it
pub first_front : {C : Type 0} (cs ds : List (Check C)) (a : C) → First cs a → First (cs ++ ds) a
first_front [] ds a f = absurd f
first_front (c ∷ cs) ds a (inl f) = inl f
first_front (c ∷ cs) ds a (inr f) = inr (f.0, first_front cs ds a f.1)

-- and behind checks that are clear
pub first_after : {C : Type 0} (cs ds : List (Check C)) (a : C) → Clear cs → First ds a → First (cs ++ ds) a
first_after [] ds a k f = f
first_after (c ∷ cs) ds a k f = inr (k.0, first_after cs ds a k.1 f)

pub clear_both : {C : Type 0} (cs ds : List (Check C)) → Clear cs → Clear ds → Clear (cs ++ ds)
clear_both [] ds k l = l
clear_both (c ∷ cs) ds k l = (k.0, clear_both cs ds k.1 l)

module _ {C D : Type 0} (f : C → D) where
  pub first_raised : (cs : List (Check C)) (a : C) → First cs a → First (raised f cs) (f a)
  first_raised [] a h = h
  first_raised (c ∷ cs) a (inl h) = inl (ap f h.0, h.1)
  first_raised (c ∷ cs) a (inr h) = inr (h.0, first_raised cs a h.1)

  pub clear_raised : (cs : List (Check C)) → Clear cs → Clear (raised f cs)
  clear_raised [] k = k
  clear_raised (c ∷ cs) k = (k.0, clear_raised cs k.1)
