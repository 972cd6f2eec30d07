-- From the steps of resolution to what they give: one walk through the cases, over the offsets of any zone, and then the named and the fixed zones.
use Rattle.std.proofs.Common.{◌≡◌, ℕ, Bool, true, false, cond, ℤ, pos, ◌+ℤ◌, ◌-ℤ◌, ◌*ℤ◌, Ok, Err, Result, refl, subst, inl, inr, arith}
use Rattle.std.proofs.lemmas.Int.{ints}
use Rattle.offsets.specs.declared.Candidate.{Candidate}
use Rattle.offsets.specs.declared.Candidates.{Candidates}
use Rattle.offsets.specs.declared.Candidates.TheVariants.{Gap, One, Two}
use Rattle.offsets.specs.Offsets.{Bounded, Spaced, Apart}
use Rattle.offsets.specs.Readers.{Reading, Leaps, Found}
use Rattle.offsets.specs.Starts.{Starts}
use Rattle.offsets.specs.Possible.{candidates_at}
use Rattle.offsets.proofs.Neighbours.{spaced_apart}
use Rattle.offsets.proofs.Scan.{gap_starts, first_starts}
use Rattle.offsets.proofs.Moved.{only_on, only_back}
use Rattle.offsets.proofs.Answered.{answered}
use Rattle.provider.specs.Meaning.{Zone, unknown, known, Meaning}
use Rattle.provider.specs.Answer.{candidates_answer, in_span}
use Rattle.provider.specs.declared.ProviderFault.{ProviderFault}
use Rattle.provider.specs.declared.Source.{Source}
use Rattle.time_zone.specs.Faults.{carried}
use Rattle.time_zone.specs.declared.ZoneFault.{ZoneFault}
use Rattle.time_zone.specs.declared.ZoneFault.TheVariants.{Range}
use Rattle.time_zone.specs.declared.TimeZone.{TimeZone}
use Rattle.time_zone.specs.declared.TimeZone.TheVariants.{Named, Fixed}
use Rattle.time_zone.specs.declared.Disambiguation.{Disambiguation}
use Rattle.time_zone.specs.declared.Disambiguation.TheVariants.{Compatible, Earlier, Later, Reject}
use Rattle.time_zone.specs.Instants.{day_ranged, day_within, all_valid, ranged, possible, first_of, last_of, moved, of_two, of_none, disambiguated_in, started}
use Rattle.zone_laws.specs.Resolution.{Lawful, KnownBy, FirstReader, LastReader, ByBefore, ByAfter, Gives, ResolutionIs, StartIs}

-- ---- the ends of what reads L

first_of_one : (f : ℤ → ℤ) (L : ℤ) (r : Candidate) → Found f L (One r) → FirstReader f L r.second
first_of_one f L r found = record { reads = found.0.0; least = λ u q. omega (arith, ints, found.1 u q) }

last_of_one : (f : ℤ → ℤ) (L : ℤ) (r : Candidate) → Found f L (One r) → LastReader f L r.second
last_of_one f L r found = record { reads = found.0.0; greatest = λ u q. omega (arith, ints, found.1 u q) }

first_of_two : (f : ℤ → ℤ) (L : ℤ) (p r : Candidate) → Found f L (Two p r) → FirstReader f L p.second
first_of_two f L p r found = record { reads = found.0.0; least = λ u q. grind (arith, ints, found.2, found.3 u q) }

last_of_two : (f : ℤ → ℤ) (L : ℤ) (p r : Candidate) → Found f L (Two p r) → LastReader f L r.second
last_of_two f L p r found = record { reads = found.1.0; greatest = λ u q. grind (arith, ints, found.2, found.3 u q) }

-- ---- a zone by its offsets: whatever is possible in it is all that reads the local time

module _ (m : Meaning) (z : TimeZone) (n : ℕ) (f : ℤ → ℤ) (apart : Apart f) (found_at : (M : ℤ) (x : Candidates) → possible m z M n ≡ Ok x → Found f M x) (a : Candidate) where
  moved_last : (M : ℤ) (R : Result Candidates ZoneFault) (b : Bool) → possible m z M n ≡ R → last_of (cond b R (Err Range)) ≡ Ok a → Reading f M a
  moved_last M (Ok (One r)) true p e = let k : r ≡ a = cc in subst (Reading f M) k (found_at M (One r) p).0
  moved_last M (Ok (Two x r)) true p e = let k : r ≡ a = cc in subst (Reading f M) k (found_at M (Two x r) p).1
  moved_last M (Ok (Gap c b d)) true p e = cc
  moved_last M (Err g) true p e = cc
  moved_last M R false p e = cc

  moved_first : (M : ℤ) (R : Result Candidates ZoneFault) (b : Bool) → possible m z M n ≡ R → first_of (cond b R (Err Range)) ≡ Ok a → Reading f M a
  moved_first M (Ok (One r)) true p e = let k : r ≡ a = cc in subst (Reading f M) k (found_at M (One r) p).0
  moved_first M (Ok (Two r y)) true p e = let k : r ≡ a = cc in subst (Reading f M) k (found_at M (Two r y) p).0
  moved_first M (Ok (Gap c b d)) true p e = cc
  moved_first M (Err g) true p e = cc
  moved_first M R false p e = cc

  module _ (L : ℤ) where
    -- L falls into the gap of c, and is moved on or back by its jump
    on_by : (c b d : ℤ) → Leaps f L c b d → last_of (moved m z (L +ℤ (d -ℤ b)) n) ≡ Ok a → ByBefore f L a.second × (a.offset ≡ f a.second)
    on_by c b d leaps e =
        let r = moved_last (L +ℤ (d -ℤ b)) (possible m z (L +ℤ (d -ℤ b)) n) (day_within (pos 100000001) (L +ℤ (d -ℤ b))) refl e in
        (record { change = c; before = b; after = d; leaps = leaps; is = only_on f apart L c b d leaps a.second r.0 }, r.1)

    back_by : (c b d : ℤ) → Leaps f L c b d → first_of (moved m z (L -ℤ (d -ℤ b)) n) ≡ Ok a → ByAfter f L a.second × (a.offset ≡ f a.second)
    back_by c b d leaps e =
        let r = moved_first (L -ℤ (d -ℤ b)) (possible m z (L -ℤ (d -ℤ b)) n) (day_within (pos 100000001) (L -ℤ (d -ℤ b))) refl e in
        (record { change = c; before = b; after = d; leaps = leaps; is = only_back f apart L c b d leaps a.second r.0 }, r.1)

    abbrev Given : Disambiguation → Candidate → Type 0
    Given way x = Gives way f L x.second × (x.offset ≡ f x.second)

    by_gap : (way : Disambiguation) (c b d : ℤ) → Leaps f L c b d → of_none m z L n way (d -ℤ b) ≡ Ok a → Given way a
    by_gap Compatible c b d leaps e = let r = on_by c b d leaps e in (inr r.0, r.1)
    by_gap Earlier c b d leaps e = let r = back_by c b d leaps e in (inr r.0, r.1)
    by_gap Later c b d leaps e = let r = on_by c b d leaps e in (inr r.0, r.1)
    by_gap Reject c b d leaps e = cc

    by_one : (way : Disambiguation) (r : Candidate) → Found f L (One r) → Given way r
    by_one Compatible r found = (inl (first_of_one f L r found), found.0.1)
    by_one Earlier r found = (inl (first_of_one f L r found), found.0.1)
    by_one Later r found = (inl (last_of_one f L r found), found.0.1)
    by_one Reject r found = (record { reads = found.0.0; only = found.1 }, found.0.1)

    by_two : (way : Disambiguation) (p r : Candidate) → Found f L (Two p r) → of_two way p r ≡ Ok a → Given way a
    by_two Compatible p r found e = let k : p ≡ a = cc in subst (Given Compatible) k (inl (first_of_two f L p r found), found.0.1)
    by_two Earlier p r found e = let k : p ≡ a = cc in subst (Given Earlier) k (inl (first_of_two f L p r found), found.0.1)
    by_two Later p r found e = let k : r ≡ a = cc in subst (Given Later) k (inl (last_of_two f L p r found), found.1.1)
    by_two Reject p r found e = cc

    by_case : (way : Disambiguation) (R : Result Candidates ZoneFault) → possible m z L n ≡ R → disambiguated_in m z L n way R ≡ Ok a → Given way a
    by_case way (Ok (One r)) p e = let k : r ≡ a = cc in subst (Given way) k (by_one way r (found_at L (One r) p))
    by_case way (Ok (Two x y)) p e = by_two way x y (found_at L (Two x y) p) e
    by_case way (Ok (Gap c b d)) p e = let g = found_at L (Gap c b d) p in by_gap way c b d (g.1, g.2, g.3, g.4) e
    by_case way (Err g) p e = cc

    -- L is the midnight of a day
    abbrev Starting : Candidate → Type 0
    Starting x = Starts f L x.second × (x.offset ≡ f x.second)

    by_start : ((t : ℤ) → FirstReader f L t → Starts f L t) → (R : Result Candidates ZoneFault) → possible m z L n ≡ R → started R ≡ Ok a → Starting a
    by_start first (Ok (One r)) p e = let k : r ≡ a = cc in let g = found_at L (One r) p in subst Starting k (first r.second (first_of_one f L r g), g.0.1)
    by_start first (Ok (Two x y)) p e = let k : x ≡ a = cc in let g = found_at L (Two x y) p in subst Starting k (first x.second (first_of_two f L x y g), g.0.1)
    by_start first (Ok (Gap c b d)) p e =
        let k : ◌≡◌ {A = Candidate} (record { second = c; offset = d }) a = cc in
        let g = found_at L (Gap c b d) p in
        subst Starting k (gap_starts f apart L c b d (g.1, g.2, g.3, g.4), g.2)
    by_start first (Err g) p e = cc

-- ---- a named zone

gated : (b : Bool) (x y : Candidates) → ◌≡◌ {A = Result Candidates ZoneFault} (cond b (Ok y) (Err Range)) (Ok x) → y ≡ x
gated true x y e = cc
gated false x y e = cc

known_possible : (refused : ProviderFault) (f : ℤ → ℤ) (L : ℤ) (n : ℕ) (x : Candidates) (dated inside : Bool) → ranged n (cond dated (carried (cond inside (Ok (candidates_at f L)) (Err refused))) (Err Range)) ≡ Ok x → candidates_at f L ≡ x
known_possible o f L n x true true e = gated (all_valid n (candidates_at f L)) x (candidates_at f L) e
known_possible o f L n x true false e = cc
known_possible o f L n x false inside e = cc

module _ (m : Meaning) (q : ℕ) (o : Source) (f : ℤ → ℤ) (is : m q ≡ known o f) (bounded : Bounded f) (spaced : Spaced f) (n : ℕ) where
  named_found : (M : ℤ) (x : Candidates) → possible m (Named q) M n ≡ Ok x → Found f M x
  named_found M x e = subst (Found f M) (known_possible _ f M n x (day_ranged M) (in_span M) (rw is at e)) (answered f bounded spaced M)

refused_resolved : (m : Meaning) (z : TimeZone) (L : ℤ) (n : ℕ) (way : Disambiguation) (a : Candidate) (o : Source) (dated : Bool) → disambiguated_in m z L n way (ranged n (cond dated (carried (candidates_answer (unknown o) L)) (Err Range))) ≡ Ok a → ⊥
refused_resolved m z L n way a o true e = cc
refused_resolved m z L n way a o false e = cc

refused_started : (L : ℤ) (n : ℕ) (a : Candidate) (o : Source) (dated : Bool) → started (ranged n (cond dated (carried (candidates_answer (unknown o) L)) (Err Range))) ≡ Ok a → ⊥
refused_started L n a o true e = cc
refused_started L n a o false e = cc

-- what holds of each known meaning of q and its laws, where an unknown one is refused
by_zone : (m : Meaning) → Lawful m → (q : ℕ) (P : (ℤ → ℤ) → Type 0) → ((o : Source) (f : ℤ → ℤ) → m q ≡ known o f → Bounded f → Spaced f → P f) → ((o : Source) → m q ≡ unknown o → ⊥) → KnownBy (m q) P
by_zone m lawful q P told untold = by_meaning (m q) refl
  where
    by_meaning : (w : Zone) → m q ≡ w → KnownBy w P
    by_meaning (known o f) is = told o f is (rw is at (lawful q).0) (rw is at (lawful q).1)
    by_meaning (unknown o) is = untold o is

-- ---- a fixed zone, whose one reader is the local time less its offset

module _ (z : ℤ) where
  fixed_apart : Apart (λ s. z)
  fixed_apart c d changes other h = absurd (changes refl)

  fixed_found : (L : ℤ) → Found (λ s. z) L (One (record { second = L -ℤ z; offset = z }))
  fixed_found L = ((omega (arith, ints), refl), λ t r. omega (arith, ints))

  fixed_starts : (L t : ℤ) → FirstReader (λ s. z) L t → Starts (λ s. z) L t
  fixed_starts L t first = record { reads = omega (arith, ints, first.reads); earliest = λ u h. omega (arith, ints, first.reads) }

fixed_possible : (m : Meaning) (k : ℤ) (n : ℕ) (M : ℤ) (x : Candidates) → possible m (Fixed k) M n ≡ Ok x → Found (λ s. k *ℤ pos 60) M x
fixed_possible m k n M x e =
    let r : Candidate = record { second = M -ℤ k *ℤ pos 60; offset = k *ℤ pos 60 } in
    subst (Found (λ s. k *ℤ pos 60) M) (gated (all_valid n (One r)) x (One r) e) (fixed_found (k *ℤ pos 60) M)

-- ---- both

pub resolution_is : ResolutionIs
resolution_is m lawful (Named q) L n d a e =
    by_zone m lawful q (λ f. Gives d f L a.second × (a.offset ≡ f a.second)) (λ o f is bounded spaced. by_case m (Named q) n f (spaced_apart f spaced) (named_found m q o f is bounded spaced n) a L d (possible m (Named q) L n) refl e) (λ o is. refused_resolved m (Named q) L n d a o (day_ranged L) (rw is at e))
resolution_is m lawful (Fixed k) L n d a e = by_case m (Fixed k) n (λ s. k *ℤ pos 60) (fixed_apart (k *ℤ pos 60)) (fixed_possible m k n) a L d (possible m (Fixed k) L n) refl e

pub start_is : StartIs
start_is m lawful (Named q) M a e =
    by_zone m lawful q (λ f. Starts f M a.second × (a.offset ≡ f a.second)) (λ o f is bounded spaced. by_start m (Named q) 0 f (spaced_apart f spaced) (named_found m q o f is bounded spaced 0) a M (λ t g. first_starts f bounded (spaced_apart f spaced) M t g.reads g.least) (possible m (Named q) M 0) refl e) (λ o is. refused_started M 0 a o (day_ranged M) (rw is at e))
start_is m lawful (Fixed k) M a e = by_start m (Fixed k) 0 (λ s. k *ℤ pos 60) (fixed_apart (k *ℤ pos 60)) (fixed_possible m k 0) a M (fixed_starts (k *ℤ pos 60) M) (possible m (Fixed k) M 0) refl e
