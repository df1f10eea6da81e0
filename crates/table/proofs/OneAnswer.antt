-- Bytes have one answer: no command begins another, and a command that stands does not stop the reading.
use Rattle.std.proofs.Common.{◌≡◌, ℕ, ◌+◌, List, [], ◌∷◌, ◌++◌, length, drop, sym, refl, ap, ◌∙◌, subst, arith}
use Rattle.std.proofs.lemmas.List.{append_assoc, append-nil, drop_at}
use Rattle.std.specs.List.{flat_map}
use Rattle.scene.specs.Checks.{First, Clear}
use Rattle.scene.proofs.Firsts.{first_same, not_first}
use Rattle.table.specs.declared.commands.Command.{Command}
use Rattle.table.specs.declared.commands.Command.TheVariants.{Row as row, Title as title, Rule as rule}
use Rattle.table.specs.Commands.{encoding, encoded, Begins, declared, of_command, Stand}
use Rattle.table.specs.Readings.{Answer, refused, closed, Stops, malformed, struck, ended, Reads, too_long, no_start, stopped}

apart : (x y : ℕ) (xs ys : List ℕ) → (x ≡ y → ⊥) → x ∷ xs ≡ y ∷ ys → ⊥
apart x y xs ys ne e = let h : x ≡ y = cc in ne h

-- a command is known from the bytes that begin with it, and so is what follows
same_command : (k l : Command) (xs ys : List ℕ) → encoding k ++ xs ≡ encoding l ++ ys → (k ≡ l) × (xs ≡ ys)
same_command (row a s b) (row a' s' b') xs ys e = (cc, cc)
same_command (row a s b) (title t) xs ys e = absurd (apart 1 3 _ _ (λ h. omega arith) e)
same_command (row a s b) (rule t h l u) xs ys e = absurd (apart 1 2 _ _ (λ h. omega arith) e)
same_command (title t) (row a s b) xs ys e = absurd (apart 3 1 _ _ (λ h. omega arith) e)
same_command (title t) (title t') xs ys e = (cc, cc)
same_command (title t) (rule t' h l u) xs ys e = absurd (apart 3 2 _ _ (λ h. omega arith) e)
same_command (rule t h l u) (row a s b) xs ys e = absurd (apart 2 1 _ _ (λ h. omega arith) e)
same_command (rule t h l u) (title t') xs ys e = absurd (apart 2 3 _ _ (λ h. omega arith) e)
same_command (rule t h l u) (rule t' h' l' u') xs ys e = (cc, cc)

not_end : (k : Command) (xs ys : List ℕ) → encoding k ++ xs ≡ 0x00 ∷ ys → ⊥
not_end (row a s b) xs ys e = apart 1 0 _ _ (λ h. omega arith) e
not_end (title t) xs ys e = apart 3 0 _ _ (λ h. omega arith) e
not_end (rule t h l u) xs ys e = apart 2 0 _ _ (λ h. omega arith) e

begins_from : (bytes : List ℕ) (k : Command) (more : List ℕ) → bytes ≡ encoding k ++ more → Begins bytes k
begins_from bytes k more e =
    e ∙ ap (λ zs. encoding k ++ zs) (sym (ap (drop (length (encoding k))) e ∙ drop_at (encoding k) more (length (encoding k)) refl))

-- a command that stands does not stop the reading
goes_on : (n : ℕ) (ks : List Command) (place : ℕ) (rest : List ℕ) (a : Answer) (k : Command) (more : List ℕ)
    → Stops n ks place rest a → Clear (of_command n (declared ks) k) → rest ≡ encoding k ++ more → ⊥
goes_on n ks place rest a k more (malformed none other) h e = none k (begins_from rest k more e)
goes_on n ks place rest a k more (struck l xs {r = r} is f) h e =
    let s = same_command l k xs more (sym is ∙ e) in
    not_first (of_command n (declared ks) k) r h (subst (λ x. First (of_command n (declared ks) x) r) s.0 f)
goes_on n ks place rest a k more (ended xs is) h e = not_end k more xs (sym e ∙ is)

-- what follows the same commands gives one answer
same_stop : (n : ℕ) (ks : List Command) (place : ℕ) (rest : List ℕ) (a b : Answer) → Stops n ks place rest a → Stops n ks place rest b → a ≡ b
same_stop n ks place rest a b (malformed none other) (malformed none' other') = refl
same_stop n ks place rest a b (malformed none other) (struck l ys is g) = absurd (none l (begins_from rest l ys is))
same_stop n ks place rest a b (malformed none other) (ended ys is) = absurd (other ys is)
same_stop n ks place rest a b (struck k xs is f) (malformed none other) = absurd (none k (begins_from rest k xs is))
same_stop n ks place rest a b (struck k xs {r = r} is f) (struck l ys {r = t} is' g) =
    let s = same_command k l xs ys (sym is ∙ is') in
    ap (λ x. refused x place) (first_same (of_command n (declared ks) l) r t (subst (λ x. First (of_command n (declared ks) x) r) s.0 f) g)
same_stop n ks place rest a b (struck k xs is f) (ended ys is') = absurd (not_end k xs ys (sym is ∙ is'))
same_stop n ks place rest a b (ended xs is) (malformed none other) = absurd (other xs is)
same_stop n ks place rest a b (ended xs is) (struck l ys is' g) = absurd (not_end l ys xs (sym is' ∙ is))
same_stop n ks place rest a b (ended xs is) (ended ys is') =
    let e : 0 ∷ xs ≡ 0 ∷ ys = sym is ∙ is' in
    let h : xs ≡ ys = cc in ap (closed n ks (place + 1)) h

-- the reading stops in one place
module _ (n : ℕ) where
  same_place : (done ks ls : List Command) (p q : ℕ) (xs ys : List ℕ) (a b : Answer)
      → flat_map encoding ks ++ xs ≡ flat_map encoding ls ++ ys → Stand n done ks → Stand n done ls
      → Stops n (done ++ ks) p xs a → Stops n (done ++ ls) q ys b → (ks ≡ ls) × (xs ≡ ys)
  same_place done [] [] p q xs ys a b e h i s t = (refl, e)
  same_place done [] (l ∷ ls) p q xs ys a b e h i s t =
      absurd (goes_on n done p xs a l (flat_map encoding ls ++ ys) (subst (λ ks. Stops n ks p xs a) (append-nil done) s) i.0 (e ∙ append_assoc (encoding l) (flat_map encoding ls) ys))
  same_place done (k ∷ ks) [] p q xs ys a b e h i s t =
      absurd (goes_on n done q ys b k (flat_map encoding ks ++ xs) (subst (λ ls. Stops n ls q ys b) (append-nil done) t) h.0 (sym e ∙ append_assoc (encoding k) (flat_map encoding ks) xs))
  same_place done (k ∷ ks) (l ∷ ls) p q xs ys a b e h i s t =
      let f = sym (append_assoc (encoding k) (flat_map encoding ks) xs) ∙ e ∙ append_assoc (encoding l) (flat_map encoding ls) ys in
      let first = same_command k l (flat_map encoding ks ++ xs) (flat_map encoding ls ++ ys) f in
      let later = same_place (done ++ k ∷ []) ks ls p q xs ys a b first.1 h.1 (subst (λ x. Stand n (done ++ x ∷ []) ls) (sym first.0) i.1)
      (subst (λ ms. Stops n ms p xs a) (sym (append_assoc done (k ∷ []) ks)) s)
      (subst (λ ms. Stops n ms q ys b) (ap (λ x. done ++ x ∷ ls) (sym first.0) ∙ sym (append_assoc done (k ∷ []) ls)) t) in
      ((λ j. first.0 j ∷ later.0 j), later.1)

-- bytes have one answer
pub one_answer : (bytes : List ℕ) (a b : Answer) → Reads bytes a → Reads bytes b → a ≡ b
one_answer bytes a b (too_long h) (too_long g) = refl
one_answer bytes a b (too_long h) (no_start g other) = refl
one_answer bytes a b (too_long h) (stopped c ks rest begun s) = let g = begun.short in absurd (omega arith)
one_answer bytes a b (no_start h other) (too_long g) = refl
one_answer bytes a b (no_start h other) (no_start g other') = refl
one_answer bytes a b (no_start h other) (stopped c ks rest begun s) = absurd (other c (flat_map encoding ks ++ rest) begun.cut)
one_answer bytes a b (stopped c ks rest begun s) (too_long g) = let h = begun.short in absurd (omega arith)
one_answer bytes a b (stopped c ks rest begun s) (no_start h other) = absurd (other c (flat_map encoding ks ++ rest) begun.cut)
one_answer bytes a b (stopped c ks xs begun s) (stopped d ls ys begun' t) =
    let e : 0x10 ∷ c ∷ (flat_map encoding ks ++ xs) ≡ 0x10 ∷ d ∷ (flat_map encoding ls ++ ys) = sym begun.cut ∙ begun'.cut in
    let same : c ≡ d = cc in
    let tails : flat_map encoding ks ++ xs ≡ flat_map encoding ls ++ ys = cc in
    let t' = subst (λ m. Stops (m + 1) ls (length (encoded m ls)) ys b) (sym same) t in
    let p = same_place (c + 1) [] ks ls (length (encoded c ks)) (length (encoded c ls)) xs ys a b tails begun.stand (subst (λ m. Stand (m + 1) [] ls) (sym same) begun'.stand) s t' in
    same_stop (c + 1) ls (length (encoded c ls)) ys a b (subst (λ zs. Stops (c + 1) ls (length (encoded c ls)) zs a) p.1 (subst (λ ms. Stops (c + 1) ms (length (encoded c ms)) xs a) p.0 s)) t'
