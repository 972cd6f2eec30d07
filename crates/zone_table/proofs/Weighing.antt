-- What the check answers, in the subject's words.
use Rattle.std.proofs.Common.{◌≡◌, ℕ, zero, suc, ◌+◌, ◌<◌, Bool, true, false, cond, List, Some, None, Err, Option, sym, refl, ap, ◌∙◌, subst, ⊎_elim, arith}
use Rattle.std.proofs.Math.Nat.{eq-or-lt_of_le}
use Rattle.zone_table.specs.Layout.{zones, count, start, laid, first_of, from_row, failing, keeps_at, breach, breach_answer, check_answer, First, Weighed}
use Rattle.zone_table.specs.declared.TableFault.TheVariants.{Sizes}
use Rattle.zone_table.proofs.Steps.{failing_all, breach_all, start_within}

record Failed (p : ℕ → Bool) (n i : ℕ) : Type 0 where
  below : i < n
  fails : p i ≡ false
  before : (j : ℕ) → j < i → p j ≡ true

failed_more : (p : ℕ → Bool) (n i : ℕ) → Failed p n i → Failed p (suc n) i
failed_more p n i f = let b = f.below in record { below = omega arith; fails = f.fails; before = f.before }

failed_step : (p : ℕ → Bool) (n i : ℕ) (o : Option ℕ) (b : Bool) → failing p n ≡ o → p n ≡ b → (failing p n ≡ Some i → Failed p n i) → first_of o (cond b None (Some n)) ≡ Some i → Failed p (suc n) i
failed_step p n i (Some j) b e f old h = failed_more p n i (old (e ∙ h))
failed_step p n i None true e f old h = let z : ◌≡◌ {A = ℕ} 0 1 = cc in absurd (omega arith)
failed_step p n i None false e f old h =
    let k : n ≡ i = cc in
    let P : ℕ → Type 0 = λ m. Failed p (suc n) m in
    subst P k (record { below = omega arith; fails = f; before = failing_all p n e })

failing_some : (p : ℕ → Bool) (n i : ℕ) → failing p n ≡ Some i → Failed p n i
unfolding failing
failing_some p zero i h = let z : ◌≡◌ {A = ℕ} 0 1 = cc in absurd (omega arith)
failing_some p (suc n) i h = failed_step p n i (failing p n) (p n) refl refl (failing_some p n i) h

module _ (bs : List ℕ) where
  first_more : (n g : ℕ) → First bs n g → First bs (suc n) g
  first_more n g f =
      let k = f.known in
      let l = f.inside in
      let a = f.at in
      record { zone = f.zone; place = f.place; known = omega arith; inside = f.inside; at = f.at; broken = f.broken; before = λ y j m i b. ⊎_elim (λ e. let w = start_within bs f.zone y (omega arith) in absurd (omega arith)) (λ o. f.before y j o i b) (eq-or-lt_of_le {n = y} {m = n} (omega arith)) }

  first_step : (n g : ℕ) (o q : Option ℕ) → breach bs n ≡ o → failing (keeps_at bs (start bs n)) (count bs n) ≡ q → (breach bs n ≡ Some g → First bs n g) → first_of o (from_row (start bs n) q) ≡ Some g → First bs (suc n) g
  first_step n g (Some x) q e f old h = first_more n g (old (e ∙ h))
  first_step n g None None e f old h = let z : ◌≡◌ {A = ℕ} 0 1 = cc in absurd (omega arith)
  first_step n g None (Some i) e f old h =
      let k : start bs n + i ≡ g = cc in
      let d = failing_some (keeps_at bs (start bs n)) (count bs n) i f in
      record { zone = n; place = i; known = omega arith; inside = d.below; at = sym k; broken = d.fails; before = λ y j m l b. ⊎_elim (λ z. same d y j z k b) (λ o. failing_all (keeps_at bs (start bs y)) (count bs y) (breach_all bs n e y o) j l) (eq-or-lt_of_le {n = y} {m = n} (omega arith)) }
    where
      same : Failed (keeps_at bs (start bs n)) (count bs n) i → (y j : ℕ) → y ≡ n → start bs n + i ≡ g → start bs y + j < g → keeps_at bs (start bs y) j ≡ true
      same d y j z k b =
          let s : start bs y ≡ start bs n = ap (start bs) z in
          let P : ℕ → Type 0 = λ x. keeps_at bs x j ≡ true in
          subst P (sym s) (d.before j (omega arith))

  first_found : (n g : ℕ) → breach bs n ≡ Some g → First bs n g
  unfolding breach
  first_found zero g h = let z : ◌≡◌ {A = ℕ} 0 1 = cc in absurd (omega arith)
  first_found (suc n) g h = first_step n g (breach bs n) (failing (keeps_at bs (start bs n)) (count bs n)) refl refl (first_found n g) h

  weighed_by : (b : Bool) (o : Option ℕ) → laid bs ≡ b → breach bs (zones bs) ≡ o → Weighed bs (cond b (breach_answer o) (Err Sizes))
  weighed_by false o e f = e
  weighed_by true None e f = (e, λ z j l m. failing_all (keeps_at bs (start bs z)) (count bs z) (breach_all bs (zones bs) f z l) j m)
  weighed_by true (Some g) e f = (e, first_found (zones bs) g f)

  pub weighed : Weighed bs (check_answer bs)
  weighed = weighed_by (laid bs) (breach bs (zones bs)) refl refl
