-- One turn of the loop that writes the entries of a group, and marks its moments.
use Rattle.std.proofs.Common.{◌≡◌, ℕ, ◌+◌, ◌<◌, Bool, true, false, cond, ◌&&◌, ◌||◌, eqb, ltb, List, length, get_or, set, sym, refl, ◌∙◌, subst, inl, inr, arith}
use Rattle.std.proofs.lemmas.List.{length-set, get_or-set_same, get_or-set_other}
use Rattle.std.proofs.lemmas.Bool.{cases_eq, cases_lt, cond-true, cond-false, eq-eqb, ne_eqb, lt-ltb, le-ltb}
use Rattle.std.proofs.Math.Bool.{or-true, or-false}
use Rattle.graph.specs.declared.order.Entry.{Entry}
use Rattle.graph.specs.Free.{Grouped}

module _ (t : ℕ → ℕ → Bool) (m : ℕ) (e : Entry) (old cur : List Entry) (i : ℕ) (far : Grouped t i m e old cur) where
  -- the entry of i is written
  pub grouped_set : i < length cur → (t m i && t i m) ≡ true → Grouped t (i + 1) m e old (set cur i e)
  grouped_set l h = (
    length-set cur i e ∙ far.0,
    (λ x hx d. elim (cases_eq x i) [
      | inl same ↦ subst (λ v. get_or (set cur i e) v d ≡ cond (t m v && t v m) e (get_or old v d)) (sym same)
          (get_or-set_same cur i e d l ∙ sym (cond-true (t m i && t i m) e (get_or old i d) h))
      | inr ne ↦ get_or-set_other cur i x e d ne ∙ far.1 x (omega arith) d
    ]),
    (λ x hx d. get_or-set_other cur i x e d (omega arith) ∙ far.2 x (omega arith) d),
  )

  -- or stays
  pub grouped_kept : (t m i && t i m) ≡ false → Grouped t (i + 1) m e old cur
  grouped_kept h = (
    far.0,
    (λ x hx d. elim (cases_eq x i) [
      | inl same ↦ subst (λ v. get_or cur v d ≡ cond (t m v && t v m) e (get_or old v d)) (sym same)
          (far.2 i (omega arith) d ∙ sym (cond-false (t m i && t i m) e (get_or old i d) h))
      | inr ne ↦ far.1 x (omega arith) d
    ]),
    (λ x hx d. far.2 x (omega arith) d),
  )

-- the marks that go with it: those of the moments below i that pass are put in
abbrev pub Marks : (ℕ → Bool) → (ℕ → Bool) → ℕ → (ℕ → Bool) → Type 0
Marks P old i cur = (v : ℕ) → v < 256 → cur v ≡ (old v || (ltb v i && P v))

same_below : (v i : ℕ) → (v ≡ i → ⊥) → ltb v (i + 1) ≡ ltb v i
same_below v i ne = elim (cases_lt v i) [ inl lt ↦ lt-ltb v (i + 1) (omega arith) ∙ sym (lt-ltb v i lt) | inr le ↦ le-ltb v (i + 1) (omega arith) ∙ sym (le-ltb v i le) ]

pub marks_set : (P old cur next : ℕ → Bool) (i : ℕ) → P i ≡ true → ((v : ℕ) → v < 256 → next v ≡ (cur v || eqb v i)) → Marks P old i cur → Marks P old (i + 1) next
marks_set P old cur next i h is m v hv = is v hv ∙ elim (cases_eq v i) [
  | inl e ↦ rw (e, eq-eqb i i refl, lt-ltb i (i + 1) (omega arith), h, or-true (cur i), or-true (old i))
  | inr ne ↦ rw (ne_eqb v i ne, or-false (cur v), same_below v i ne) (m v hv)
]

pub marks_kept : (P old cur : ℕ → Bool) (i : ℕ) → P i ≡ false → Marks P old i cur → Marks P old (i + 1) cur
marks_kept P old cur i h m v hv = m v hv ∙ elim (cases_eq v i) [
  | inl e ↦ rw (e, le-ltb i i (omega arith), lt-ltb i (i + 1) (omega arith), h)
  | inr ne ↦ rw (same_below v i ne)
]
