-- What the two laws of offsets bring about, whatever the offsets.
use Rattle.std.specs.Prelude.{◌≡◌, List, ℤ, pos, ◌+ℤ◌, ◌-ℤ◌, ◌≤ℤ◌, ◌<ℤ◌}
use Rattle.offsets.specs.Offsets.{Bounded, Changes, Spaced, Apart}
use Rattle.offsets.specs.Readers.{Reads, Leaps, Found}
use Rattle.offsets.specs.Possible.{possible, candidates_at}
use Rattle.offsets.specs.Members.{In, Ascending}
use Rattle.offsets.specs.Starts.{Starts}
use Rattle.offsets.specs.declared.Candidates.{Candidates}

-- What neighbouring changes keep, any two changes keep.
abbrev pub AllApart : Type 0
AllApart = (f : ℤ → ℤ) → Spaced f → Apart f

-- ---- who reads a local time

-- No three instants read one local time.
abbrev pub AtMostTwo : Type 0
AtMostTwo = (f : ℤ → ℤ) → Spaced f → (L t u v : ℤ) → Reads f L t → Reads f L u → Reads f L v → t <ℤ u → u <ℤ v → ⊥

-- Just one change lies after t and not after u, and it sets the clock back by the time between them.
pub record OneBack (f : ℤ → ℤ) (t u : ℤ) : Type 0 where
  pub change : ℤ
  pub changes : Changes f change
  pub past : t <ℤ change
  pub until : change ≤ℤ u
  pub only : (e : ℤ) → t <ℤ e → e ≤ℤ u → Changes f e → e ≡ change
  pub falls : f change -ℤ f (change -ℤ pos 1) ≡ t -ℤ u

-- Where two instants read one local time, one change lies between them.
abbrev pub TwoByOne : Type 0
TwoByOne = (f : ℤ → ℤ) → Spaced f → (L t u : ℤ) → Reads f L t → Reads f L u → t <ℤ u → OneBack f t u

-- A local time that nothing reads has a gap, and one in a gap has no reader.
pub record GapOrReader : Type 0 where
  pub gap : (f : ℤ → ℤ) → Bounded f → (L : ℤ) → ((t : ℤ) → Reads f L t → ⊥) → (c : ℤ) × Leaps f L c (f (c -ℤ pos 1)) (f c)
  pub empty : (f : ℤ → ℤ) → Spaced f → (L c b a t : ℤ) → Leaps f L c b a → Reads f L t → ⊥

-- A local time is leapt over by one change at most.
abbrev pub OneGap : Type 0
OneGap = (f : ℤ → ℤ) → Spaced f → (L c b a d e g : ℤ) → Leaps f L c b a → Leaps f L d e g → c ≡ d

-- There is one right answer to what reads a local time, and the offsets alone tell it.
abbrev pub OneAnswer : Type 0
OneAnswer = (f : ℤ → ℤ) → Bounded f → Spaced f → (L : ℤ) (x : Candidates) → Found f L x → x ≡ candidates_at f L

-- There always is one, whatever the lawful offsets.
abbrev pub SomeAnswer : Type 0
SomeAnswer = (f : ℤ → ℤ) → Bounded f → Spaced f → (L : ℤ) → Found f L (candidates_at f L)

-- The list of possible instants is ascending and has just the instants that read the local time, and no other list is so.
pub record JustReaders : Type 0 where
  pub ascends : (f : ℤ → ℤ) (L : ℤ) → Ascending (possible f L)
  pub reads : (f : ℤ → ℤ) (L t : ℤ) → In (possible f L) t → Reads f L t
  pub all : (f : ℤ → ℤ) → Bounded f → (L t : ℤ) → Reads f L t → In (possible f L) t
  pub alone : (f : ℤ → ℤ) → Bounded f → (L : ℤ) (xs : List ℤ) → Ascending xs → ((t : ℤ) → In xs t → Reads f L t) → ((t : ℤ) → Reads f L t → In xs t) → xs ≡ possible f L

-- ---- a local time in a gap, from the offset b to a, moved by the jump

-- Moved on it is read at L less the offset before, moved back at L less the offset after, and at no other instant.
pub record MovedOnce (f : ℤ → ℤ) (L b a : ℤ) : Type 0 where
  pub on : Reads f (L +ℤ (a -ℤ b)) (L -ℤ b)
  pub only_on : (t : ℤ) → Reads f (L +ℤ (a -ℤ b)) t → t ≡ L -ℤ b
  pub back : Reads f (L -ℤ (a -ℤ b)) (L -ℤ a)
  pub only_back : (t : ℤ) → Reads f (L -ℤ (a -ℤ b)) t → t ≡ L -ℤ a

abbrev pub MovedTimes : Type 0
MovedTimes = (f : ℤ → ℤ) → Spaced f → (L c b a : ℤ) → Leaps f L c b a → MovedOnce f L b a

-- ---- where a local time begins

-- Every local time begins somewhere: at its first reader, or at the change that leaps over it. A later one never begins earlier.
pub record Beginnings : Type 0 where
  pub some : (f : ℤ → ℤ) → Bounded f → (M : ℤ) → (s : ℤ) × Starts f M s
  pub reader : (f : ℤ → ℤ) → Bounded f → Spaced f → (M t : ℤ) → Reads f M t → ((u : ℤ) → Reads f M u → t ≤ℤ u) → Starts f M t
  pub leap : (f : ℤ → ℤ) → Spaced f → (M c b a : ℤ) → Leaps f M c b a → Starts f M c
  pub rise : (f : ℤ → ℤ) (M N s t : ℤ) → M ≤ℤ N → Starts f M s → Starts f N t → s ≤ℤ t
