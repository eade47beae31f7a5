-- The names of the commands, and the values that stand behind them.
use Rattle.std.specs.Prelude.{◌≡◌, ◌≤◌, ℕ, Bool, true, false, ◌&&◌, List, [], ◌∷◌, ◌++◌, codes, Option, Some, None, MatchOption, IsTrue, bytes_eq, find}
use Rattle.std.specs.Fmt.{decimal}
use Rattle.las_base.specs.declared.Size.{Size}
use Rattle.las_base.specs.Jobs.{within_limits}
use Rattle.las_io.specs.Names.{is_lawful_name}
use Rattle.las_words.specs.declared.command.Command.{Command}
use Rattle.las_words.specs.declared.command.Command.TheVariants as command
use Rattle.las_words.specs.declared.verb.Verb.{Verb}
use Rattle.las_words.specs.declared.verb.Verb.TheVariants.{Sweep, Check, Audit, Verify, Spec, Zx, Bench}
use Rattle.las_base.specs.Texts.{size_text}
use Rattle.las_words.specs.Forms.{Text}

-- the word that names a command
abbrev pub word_of : Verb → Text
word_of Sweep = codes "sweep"
word_of Check = codes "check"
word_of Audit = codes "audit"
word_of Verify = codes "verify"
word_of Spec = codes "spec"
word_of Zx = codes "zx"
word_of Bench = codes "bench"

abbrev pub verbs : List Verb
verbs = Sweep ∷ Check ∷ Audit ∷ Verify ∷ Spec ∷ Zx ∷ Bench ∷ []

-- the command that a word names
abbrev pub verb_by : Text → Option Verb
verb_by word = find (λ v. bytes_eq (word_of v) word) verbs

-- the name of a command
abbrev pub verb_of : Command → Verb
verb_of (command.Sweep budget) = Sweep
verb_of command.Check = Check
verb_of (command.Audit name) = Audit
verb_of (command.Verify size) = Verify
verb_of command.Spec = Spec
verb_of command.Zx = Zx
verb_of (command.Bench n) = Bench

-- the text of its value, where it has one
abbrev pub value_of : Command → Option Text
value_of (command.Sweep budget) = Some (decimal budget)
value_of command.Check = None
value_of (command.Audit name) = Some name
value_of (command.Verify size) = Some (size_text size)
value_of command.Spec = None
value_of command.Zx = None
value_of (command.Bench n) = Some (decimal n)

-- its value is one that it may have
abbrev pub IsInRange : Command → Type 0
IsInRange (command.Sweep budget) = (1 ≤ budget) × (budget ≤ 10000000)
IsInRange (command.Audit name) = IsTrue (is_lawful_name name)
IsInRange (command.Verify size) = IsTrue (within_limits size)
IsInRange (command.Bench n) = (2 ≤ n) × (n ≤ 24)
IsInRange _ = Unit {0}

-- the result is the number between these that the text is, and none where it is none
abbrev pub ReadsNumber : ℕ → ℕ → Text → Option ℕ → Type 0
ReadsNumber low high text r = MatchOption r ((n : ℕ) → low ≤ n → n ≤ high → text ≡ decimal n → ⊥) (λ n. (low ≤ n) × (n ≤ high) × (text ≡ decimal n))

-- the result is the box of these sides, and none where it is none within the limits
abbrev pub ReadsBox : Option ℕ → Option ℕ → Option ℕ → Option Size → Type 0
ReadsBox i j k r = MatchOption r ((s : Size) → within_limits s ≡ true → i ≡ Some s.i → j ≡ Some s.j → k ≡ Some s.k → ⊥) (λ s. (within_limits s ≡ true) × (i ≡ Some s.i) × (j ≡ Some s.j) × (k ≡ Some s.k))

-- the result is the box whose sides the text is, and none where it is none
abbrev pub ReadsSize : Text → Option Size → Type 0
ReadsSize text r = MatchOption r ((s : Size) → within_limits s ≡ true → text ≡ size_text s → ⊥) (λ s. (within_limits s ≡ true) × (text ≡ size_text s))

-- the command has this name and this value
pub record IsRead (verb : Verb) (value : Option Text) (c : Command) : Type 0 where
  pub range : IsInRange c
  pub name : verb_of c ≡ verb
  pub text : value_of c ≡ value

-- the command of a name and a value, where there is one
abbrev pub Reads : Verb → Option Text → Option Command → Type 0
Reads verb value r = MatchOption r ((c : Command) → IsRead verb value c → ⊥) (IsRead verb value)

-- ---- how the words of a name and a value are written

abbrev pub is_alone : Text → List Text → Bool
is_alone word (first ∷ []) = bytes_eq first word
is_alone word _ = false

abbrev pub has_value : Text → Text → List Text → Bool
has_value word value (first ∷ second ∷ []) = bytes_eq first word && bytes_eq second value
has_value word value _ = false

abbrev pub has_option : Text → Text → Text → List Text → Bool
has_option word option value (first ∷ second ∷ []) = bytes_eq first word && bytes_eq second (option ++ (codes "=" ++ value))
has_option word option value (first ∷ second ∷ third ∷ []) = bytes_eq first word && (bytes_eq second option && bytes_eq third value)
has_option word option value _ = false

-- the words of a name and a value, by the name
abbrev pub is_written : Verb → Option Text → List Text → Bool
is_written Sweep (Some value) words = has_option (codes "sweep") (codes "--budget") value words
is_written Verify (Some value) words = has_option (codes "verify") (codes "--box") value words
is_written Audit (Some value) words = has_value (codes "audit") value words
is_written Bench (Some value) words = has_value (codes "bench") value words
is_written verb (Some value) words = false
is_written verb None words = is_alone (word_of verb) words
