-- Tests over a list: all of its elements pass, or one does.
use Rattle.std.proofs.Common.{◌≡◌, ℕ, ◌<◌, Bool, true, List, [], ◌∷◌, length, Decides, sym, refl, subst}
use Rattle.std.specs.List.{HoldsAt, ContainsAt as Has, AllByRecursion as All, list_any, list_all}
use Rattle.std.proofs.ByRecursion.{all-has, Decides-by_and}
use Rattle.std.proofs.lemmas.Bool.Decides.{Decides-by_or}
use Rattle.std.proofs.lemmas.Bool.{and_from}

module _ {X : Type 0} (f : X → Bool) (xs : List X) where
  all_pass : Decides (list_all f xs) (All (λ x. f x ≡ true) xs)
  all_pass = Decides-by_and f (λ x. f x ≡ true) (list_all f) (λ x. (λ e. e, λ e. e)) refl (λ _ _. refl) xs

  pub one_passes : Decides (list_any f xs) ((k : ℕ) × (k < length xs) × HoldsAt (λ x. f x ≡ true) xs k)
  one_passes = Decides-by_or f (λ x. f x ≡ true) (list_any f) (λ x. (λ e. e, λ e. e)) refl (λ _ _. refl) xs

  pub passes : (x : X) → Has xs x → list_all f xs ≡ true → f x ≡ true
  passes x h e = all-has (λ y. f y ≡ true) xs x (all_pass.0 e) h

  pub passed_by : (x : X) → Has xs x → f x ≡ true → list_any f xs ≡ true
  passed_by x h e = one_passes.1 (h.0, h.1, λ d. subst (λ y. f y ≡ true) (sym (h.2 d)) e)

pub every_from : {X : Type 0} (f : X → Bool) → ((x : X) → f x ≡ true) → (xs : List X) → list_all f xs ≡ true
every_from f h [] = refl
every_from f h (x ∷ xs) = and_from (f x) (list_all f xs) (h x) (every_from f h xs)
