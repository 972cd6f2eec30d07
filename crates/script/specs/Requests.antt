-- The request of a `set`, word by word. Each s is what is left of the line before the next word.
use Rattle.std.specs.Prelude.{◌≡◌, ℕ, Bool, cond, List, ℤ, is_some, Some, None, codes, Option, refl}
use Rattle.std.proofs.Common.{sym, ◌∙◌, ap}
use Rattle.calendar.specs.declared.IsoDate.{IsoDate}
use Rattle.clock.specs.declared.IsoTime.{IsoTime}
use Rattle.time_zone.specs.declared.TimeZone.{TimeZone}
use Rattle.zoned.specs.declared.Request.{Request}
use Rattle.time_zone.specs.declared.Disambiguation.{Disambiguation}
use Rattle.zoned.specs.declared.OffsetDisambiguation.{OffsetDisambiguation}
use Rattle.script.specs.declared.command.Call.{Call}
use Rattle.script.specs.declared.command.Call.TheVariants.{Set, Read, Clear}
use Rattle.script.specs.declared.command.Command.{Command}
use Rattle.script.specs.declared.command.Command.TheVariants.{Call as Called}
use Rattle.script.specs.Cuts.{alike, halves}
use Rattle.script.specs.Numbers.{number, unsigned_below}
use Rattle.script.specs.Dates.{date_of}
use Rattle.script.specs.Forms.{zone_of}
use Rattle.script.specs.Options.{is_time, time_word, offset_word, policy_word, disambiguation_word}
use Rattle.script.specs.Words.{front, back, next_word, next_rest, is_word, word_behind, rest_if}

abbrev pub zone_word : Option (List ℕ) → Option TimeZone
zone_word None = None
zone_word (Some w) = zone_of w

abbrev pub date_word : Option (List ℕ) → Option IsoDate
date_word None = None
date_word (Some w) = date_of w

-- The request of its parts, where each has its form and nothing is left of the line.
abbrev pub request_made : TimeZone → IsoDate → Option (Option IsoTime) → Bool → Option (Option ℤ) → Option OffsetDisambiguation → Option Disambiguation → Bool → Option (List ℕ) → Option Request
request_made z d None e o p i m s = None
request_made z d (Some t) e None p i m s = None
request_made z d (Some t) e (Some o) None i m s = None
request_made z d (Some t) e (Some o) (Some p) None m s = None
request_made z d (Some t) e (Some o) (Some p) (Some i) m (Some r) = None
request_made z d (Some t) e (Some o) (Some p) (Some i) m None =
    Some (record { zone = z; date = d; time = t; exact = e; offset = o; policy = p; disambiguation = i; match_minutes = m })

-- The optional words in their order, behind the zone and the date.
abbrev pub OptionsRead : TimeZone → IsoDate → Option (List ℕ) → Option Request → Type 0
OptionsRead z d s r =
    (s1 s2 s3 s4 s5 s6 : Option (List ℕ)) → s1 ≡ rest_if (is_time (next_word s)) s → s2 ≡ rest_if (is_word (next_word s1) (codes "exact")) s1 → s3 ≡ rest_if (is_some (word_behind (codes "offset=") (next_word s2))) s2 → s4 ≡ rest_if (is_some (word_behind (codes "policy=") (next_word s3))) s3 → s5 ≡ rest_if (is_some (word_behind (codes "disambiguation=") (next_word s4))) s4 → s6 ≡ rest_if (is_word (next_word s5) (codes "match=minutes")) s5 → r ≡ request_made z d (time_word (next_word s)) (is_word (next_word s1) (codes "exact")) (offset_word (word_behind (codes "offset=") (next_word s2))) (policy_word (word_behind (codes "policy=") (next_word s3))) (disambiguation_word (word_behind (codes "disambiguation=") (next_word s4))) (is_word (next_word s5) (codes "match=minutes")) s6

abbrev pub past_time : Option (List ℕ) → Option (List ℕ)
past_time s = rest_if (is_time (next_word s)) s

abbrev pub past_word : List ℕ → Option (List ℕ) → Option (List ℕ)
past_word w s = rest_if (is_word (next_word s) w) s

abbrev pub past_behind : List ℕ → Option (List ℕ) → Option (List ℕ)
past_behind p s = rest_if (is_some (word_behind p (next_word s))) s

-- The one request that the optional words come to.
unfoldable pub options_of : TimeZone → IsoDate → Option (List ℕ) → Option Request
options_of z d s =
    let s1 : Option (List ℕ) = past_time s in
    let s2 : Option (List ℕ) = past_word (codes "exact") s1 in
    let s3 : Option (List ℕ) = past_behind (codes "offset=") s2 in
    let s4 : Option (List ℕ) = past_behind (codes "policy=") s3 in
    let s5 : Option (List ℕ) = past_behind (codes "disambiguation=") s4 in
    let s6 : Option (List ℕ) = past_word (codes "match=minutes") s5 in
    request_made z d (time_word (next_word s)) (is_word (next_word s1) (codes "exact")) (offset_word (word_behind (codes "offset=") (next_word s2))) (policy_word (word_behind (codes "policy=") (next_word s3))) (disambiguation_word (word_behind (codes "disambiguation=") (next_word s4))) (is_word (next_word s5) (codes "match=minutes")) s6

pub options_one : (z : TimeZone) (d : IsoDate) (s : Option (List ℕ)) (r : Option Request) → OptionsRead z d s r → r ≡ options_of z d s
unfolding options_of
options_one z d s r h =
    let s1 : Option (List ℕ) = past_time s in
    let s2 : Option (List ℕ) = past_word (codes "exact") s1 in
    let s3 : Option (List ℕ) = past_behind (codes "offset=") s2 in
    let s4 : Option (List ℕ) = past_behind (codes "policy=") s3 in
    let s5 : Option (List ℕ) = past_behind (codes "disambiguation=") s4 in
    let s6 : Option (List ℕ) = past_word (codes "match=minutes") s5 in
    h s1 s2 s3 s4 s5 s6 refl refl refl refl refl refl

abbrev pub request_behind : Option TimeZone → Option IsoDate → Option (List ℕ) → Option Request
request_behind None d s = None
request_behind (Some z) None s = None
request_behind (Some z) (Some d) s = options_of z d s

-- ZONE DATE and the optional words.
abbrev pub request_of : Option (List ℕ) → Option Request
request_of s = request_behind (zone_word (next_word s)) (date_word (next_word (next_rest s))) (next_rest (next_rest s))

abbrev pub berth_word : Option (List ℕ) → Option ℕ
berth_word None = None
berth_word (Some w) = unsigned_below 256 (number w)

-- Nothing is left of the line.
abbrev pub at_end : Option (List ℕ) → Option ℕ → Option ℕ
at_end None b = b
at_end (Some s) b = None

abbrev pub last_berth : Option (List ℕ) → Option ℕ
last_berth s = at_end (next_rest s) (berth_word (next_word s))

abbrev pub set_call : Option ℕ → Option Request → Option Call
set_call None q = None
set_call (Some b) None = None
set_call (Some b) (Some q) = Some (Set b q)

abbrev pub read_call : Option ℕ → Option Call
read_call None = None
read_call (Some b) = Some (Read b)

abbrev pub clear_call : Option ℕ → Option Call
clear_call None = None
clear_call (Some b) = Some (Clear b)

-- The call that a line's first word w and the rest of it make.
abbrev pub call_of : List ℕ → Option (List ℕ) → Option Call
call_of w s =
    cond (alike w (codes "set")) (set_call (berth_word (next_word s)) (request_of (next_rest s))) (cond (alike w (codes "read")) (read_call (last_berth s)) (cond (alike w (codes "clear")) (clear_call (last_berth s)) None))

pub request_one : (s s1 s2 : Option (List ℕ)) (z : TimeZone) (d : IsoDate) (r : Option Request) → zone_word (next_word s) ≡ Some z → s1 ≡ next_rest s → date_word (next_word s1) ≡ Some d → s2 ≡ next_rest s1 → r ≡ options_of z d s2 → r ≡ request_of s
request_one s s1 s2 z d r ez e1 ed e2 er =
    er ∙ ap (options_of z d) (e2 ∙ ap next_rest e1) ∙ sym (ap (λ y. request_behind y (date_word (next_word (next_rest s))) (next_rest (next_rest s))) ez ∙ ap (λ y. request_behind (Some z) y (next_rest (next_rest s))) (ap (λ t. date_word (next_word t)) (sym e1) ∙ ed))

abbrev pub called : Option Call → Option Command
called None = None
called (Some c) = Some (Called c)

-- The call that a whole line makes.
abbrev pub call_line : List ℕ → Option Command
call_line bs = called (call_of (front (halves 32 bs) bs) (back (halves 32 bs)))
