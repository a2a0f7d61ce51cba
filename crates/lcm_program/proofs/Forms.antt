-- Arguments ask for at most one command; where arguments in no form go wrong.
use Rattle.std.proofs.Common.{◌≡◌, ℕ, ◌-◌, ◌<◌, ◌≤◌, List, [], ◌∷◌, ◌⊎◌, inl, inr, false, true≢false, length, take, drop, get_or, codes, map, unwrap_or, bytes_eq, if◌then◌else◌, refl, sym, ap, ap₂, ◌∙◌, subst, take_all, arith, Some, None}
use Rattle.std.specs.Fmt.{decimal}
use Rattle.std.specs.Str.Parse.{digits_value}
use Rattle.std.proofs.lemmas.Slice.Eq.{bytes_eq-Decides}
use Rattle.std.proofs.lemmas.Str.Parse.{numerals_by_value, tells_digits}
use Rattle.std.proofs.lemmas.Fmt.{digits_value-decimal}
use Rattle.uuid.proofs.OnLiterals.{uuid_on_literals}
use Rattle.node_state.specs.declared.event.Stage.{Stage}
use Rattle.node_state.specs.declared.event.Stage.TheVariants.{Pending, Current, Previous}
use Rattle.lcm_program.specs.declared.words.Command.{Command}
use Rattle.lcm_program.specs.declared.words.Command.TheVariants.{Test, Check, Order, Canon, Checksum, Compile, Generate, Init, Meta, Register, Pull, Push, Consistency, Boot, Get, Restore, Remove, Reports}
use Rattle.lcm_program.specs.Words.{IsAgent, IsCount, IsForm, IsInRange, IsName, IsStage, IsUsage, agent_of}

-- the first letter of an argument, and that of the first argument, which distinguishes the commands that take another argument from all others
abbrev letter : List ℕ → ℕ
letter word = get_or word 0 0

abbrev first_letter : List (List ℕ) → ℕ
first_letter arguments = letter (get_or arguments 0 [])

-- its length, where that letter does not
abbrev first_length : List (List ℕ) → ℕ
first_length arguments = length (get_or arguments 0 [])

-- the stage that an argument names
stage_of : List ℕ → Stage
stage_of word =
    if bytes_eq word (codes "pending") then Pending else
    if bytes_eq word (codes "current") then Current else
    Previous

named_stage : (word : List ℕ) (stage : Stage) → IsStage word stage → stage_of word ≡ stage
unfolding stage_of
named_stage word Pending is = ap stage_of is
named_stage word Current is = ap stage_of is
named_stage word Previous is = ap stage_of is

-- the command, where it has a name with that name at no place of its own
abbrev pub plain : Command → Command
plain (Compile node) = Compile (record { ref_ptr = (0, 0); now = node.now })
plain (Register name) = Register (record { ref_ptr = (0, 0); now = name.now })
plain (Push (Some name)) = Push (Some (record { ref_ptr = (0, 0); now = name.now }))
plain command = command

-- what the arguments after `push` ask for
push_of : List (List ℕ) → Command
push_of [] = Push None
push_of (name ∷ more) = Push (Some (record { ref_ptr = (0, 0); now = name }))

-- the command that arguments in a form ask for, so
asked : List (List ℕ) → Command
asked arguments =
    let first = get_or arguments 0 [] in
    if bytes_eq first (codes "test") then Test else
    if bytes_eq first (codes "check") then Check else
    if bytes_eq first (codes "order") then Order else
    if bytes_eq first (codes "canon") then Canon else
    if bytes_eq first (codes "checksum") then Checksum else
    if bytes_eq first (codes "compile") then Compile (record { ref_ptr = (0, 0); now = get_or arguments 1 [] }) else
    if bytes_eq first (codes "meta") then Meta else
    if bytes_eq first (codes "pull") then Pull else
    if bytes_eq first (codes "push") then push_of (drop 1 arguments) else
    if bytes_eq first (codes "consistency") then Consistency else
    if bytes_eq first (codes "boot") then Boot else
    if bytes_eq first (codes "get") then Get else
    if bytes_eq first (codes "restore") then Restore else
    if bytes_eq first (codes "reports") then Reports else
    if bytes_eq first (codes "register") then Register (record { ref_ptr = (0, 0); now = get_or arguments 1 [] }) else
    if bytes_eq first (codes "remove") then Remove (stage_of (get_or arguments 1 [])) else
    if bytes_eq first (codes "init") then Init (unwrap_or (agent_of (get_or arguments 1 [])) 0) else
    Generate (digits_value 10 (get_or arguments 1 []))

form_asks : (command : Command) (arguments : List (List ℕ)) → IsForm command arguments → asked arguments ≡ plain command
unfolding asked push_of
form_asks Test arguments form = ap asked form
form_asks Check arguments form = ap asked form
form_asks Order arguments form = ap asked form
form_asks Canon arguments form = ap asked form
form_asks Checksum arguments form = ap asked form
form_asks (Compile node) arguments (is, named) = ap asked is
form_asks (Generate count) arguments (word, is, counted) =
    ap asked is ∙ ap (λ (n : ℕ). Generate n) (ap (digits_value 10) counted.0 ∙ digits_value-decimal (numerals_by_value _ tells_digits) count (omega (arith, counted.2)))
form_asks (Init agent) arguments (word, is, named) = ap asked is ∙ ap (λ found. Init (unwrap_or found 0)) named
form_asks Meta arguments form = ap asked form
form_asks (Register name) arguments (is, named) = ap asked is
form_asks Pull arguments form = ap asked form
form_asks (Push None) arguments form = ap asked form
form_asks (Push (Some name)) arguments (is, named) = ap asked is
form_asks Consistency arguments form = ap asked form
form_asks Boot arguments form = ap asked form
form_asks Get arguments form = ap asked form
form_asks Restore arguments form = ap asked form
form_asks (Remove stage) arguments (word, is, named) = ap asked is ∙ ap (λ (s : Stage). Remove s) (named_stage word stage named)
form_asks Reports arguments form = ap asked form

-- the arguments ask for one command
pub one_form : (a b : Command) (arguments : List (List ℕ)) → IsForm a arguments → IsForm b arguments → plain a ≡ plain b
one_form a b arguments p q = sym (form_asks a arguments p) ∙ form_asks b arguments q

pub in_range : (command : Command) (arguments : List (List ℕ)) → IsForm command arguments → IsInRange command
in_range Test arguments form = tt
in_range Check arguments form = tt
in_range Order arguments form = tt
in_range Canon arguments form = tt
in_range Checksum arguments form = tt
in_range (Compile node) arguments form = tt
in_range (Generate count) arguments form = (form.2.1, form.2.2)
in_range (Init agent) arguments form = tt
in_range Meta arguments form = tt
in_range (Register name) arguments form = tt
in_range Pull arguments form = tt
in_range (Push name) arguments form = tt
in_range Consistency arguments form = tt
in_range Boot arguments form = tt
in_range Get arguments form = tt
in_range Restore arguments form = tt
in_range (Remove stage) arguments form = tt
in_range Reports arguments form = tt

-- ---- arguments alone

-- the argument of a command that takes another, or may take one
abbrev pub TakesWord : List ℕ → Type 0
TakesWord first = (first ≡ codes "generate") ⊎ ((first ≡ codes "init") ⊎ ((first ≡ codes "remove") ⊎ ((first ≡ codes "register") ⊎ ((first ≡ codes "push") ⊎ (first ≡ codes "compile")))))

-- a text has these bytes, and was compared with this word, which it is not
abbrev pub Differs : List ℕ → List ℕ → Type 0
Differs bytes name = (text : List ℕ) × (text ≡ bytes) × (false ≡ bytes_eq text name)

differs : (bytes name : List ℕ) → Differs bytes name → bytes ≡ name → ⊥
differs bytes name (text, same, unlike) is = true≢false (sym ((bytes_eq-Decides text name).1 (same ∙ is)) ∙ sym unlike)

-- an argument that is none of the six takes no other
pub takes_none : (first bytes : List ℕ) → first ≡ bytes → Differs bytes (codes "generate") → Differs bytes (codes "init") → Differs bytes (codes "register")
    → Differs bytes (codes "remove") → Differs bytes (codes "push") → Differs bytes (codes "compile")
    → TakesWord first → ⊥
takes_none first bytes same generate init register remove push compile takes = elim takes [
  | inl is ↦ differs bytes _ generate (sym same ∙ is)
  | inr (inl is) ↦ differs bytes _ init (sym same ∙ is)
  | inr (inr (inl is)) ↦ differs bytes _ remove (sym same ∙ is)
  | inr (inr (inr (inl is))) ↦ differs bytes _ register (sym same ∙ is)
  | inr (inr (inr (inr (inl is)))) ↦ differs bytes _ push (sym same ∙ is)
  | inr (inr (inr (inr (inr is)))) ↦ differs bytes _ compile (sym same ∙ is)
]

-- any other form is an argument alone
form_parts : (command : Command) (first : List ℕ) (rest : List (List ℕ)) → IsForm command (first ∷ rest)
    → (IsForm command (first ∷ []) × (rest ≡ [])) ⊎ TakesWord first
form_parts Test first rest form = inl (ap (take 1) form, ap (drop 1) form)
form_parts Check first rest form = inl (ap (take 1) form, ap (drop 1) form)
form_parts Order first rest form = inl (ap (take 1) form, ap (drop 1) form)
form_parts Canon first rest form = inl (ap (take 1) form, ap (drop 1) form)
form_parts Checksum first rest form = inl (ap (take 1) form, ap (drop 1) form)
form_parts (Compile node) first rest (is, named) = inr (inr (inr (inr (inr (inr (ap (λ arguments. get_or arguments 0 []) is))))))
form_parts (Generate count) first rest (word, is, counted) = inr (inl (ap (λ arguments. get_or arguments 0 []) is))
form_parts (Init agent) first rest (word, is, named) = inr (inr (inl (ap (λ arguments. get_or arguments 0 []) is)))
form_parts Meta first rest form = inl (ap (take 1) form, ap (drop 1) form)
form_parts (Register name) first rest (is, named) = inr (inr (inr (inr (inl (ap (λ arguments. get_or arguments 0 []) is)))))
form_parts Pull first rest form = inl (ap (take 1) form, ap (drop 1) form)
form_parts (Push None) first rest form = inr (inr (inr (inr (inr (inl (ap (λ arguments. get_or arguments 0 []) form))))))
form_parts (Push (Some name)) first rest (is, named) = inr (inr (inr (inr (inr (inl (ap (λ arguments. get_or arguments 0 []) is))))))
form_parts Consistency first rest form = inl (ap (take 1) form, ap (drop 1) form)
form_parts Boot first rest form = inl (ap (take 1) form, ap (drop 1) form)
form_parts Get first rest form = inl (ap (take 1) form, ap (drop 1) form)
form_parts Restore first rest form = inl (ap (take 1) form, ap (drop 1) form)
form_parts (Remove stage) first rest (word, is, named) = inr (inr (inr (inl (ap (λ arguments. get_or arguments 0 []) is))))
form_parts Reports first rest form = inl (ap (take 1) form, ap (drop 1) form)

some_word : (command : Command) (arguments : List (List ℕ)) → IsForm command arguments → 0 < length arguments
some_word Test arguments form = omega (arith, ap length form)
some_word Check arguments form = omega (arith, ap length form)
some_word Order arguments form = omega (arith, ap length form)
some_word Canon arguments form = omega (arith, ap length form)
some_word Checksum arguments form = omega (arith, ap length form)
some_word (Compile node) arguments (is, named) = omega (arith, ap length is)
some_word (Generate count) arguments (word, is, counted) = omega (arith, ap length is)
some_word (Init agent) arguments (word, is, named) = omega (arith, ap length is)
some_word Meta arguments form = omega (arith, ap length form)
some_word (Register name) arguments (is, named) = omega (arith, ap length is)
some_word Pull arguments form = omega (arith, ap length form)
some_word (Push None) arguments form = omega (arith, ap length form)
some_word (Push (Some name)) arguments (is, named) = omega (arith, ap length is)
some_word Consistency arguments form = omega (arith, ap length form)
some_word Boot arguments form = omega (arith, ap length form)
some_word Get arguments form = omega (arith, ap length form)
some_word Restore arguments form = omega (arith, ap length form)
some_word (Remove stage) arguments (word, is, named) = omega (arith, ap length is)
some_word Reports arguments form = omega (arith, ap length form)

-- there is no argument
pub no_word : IsUsage [] 0
no_word = record {
  no_form = λ command form. omega (arith, some_word command [] form);
  within = omega arith;
  begins = (Test, codes "test" ∷ [], refl);
  stops = λ below begins. omega (arith, below);
}

-- the first argument is that of no command
pub wrong_first : (first : List ℕ) (rest : List (List ℕ)) → ((command : Command) → IsForm command (first ∷ []) → TakesWord first) → (TakesWord first → ⊥)
    → IsUsage (first ∷ rest) 0
wrong_first first rest alone other =
    record {
      no_form = λ command form. never command rest form;
      within = omega arith;
      begins = (Test, codes "test" ∷ [], refl);
      stops = λ below begins. never begins.0 begins.1 begins.2;
    }
  where
    never : (command : Command) (more : List (List ℕ)) → IsForm command (first ∷ more) → ⊥
    never command more form = elim (form_parts command first more form) [
      | inl is ↦ other (alone command is.0)
      | inr is ↦ other is
    ]

-- an argument follows one that stands alone
pub second_word : (first : List ℕ) (rest : List (List ℕ)) (command : Command) → 0 < length rest → (TakesWord first → ⊥) → IsForm command (first ∷ [])
    → IsUsage (first ∷ rest) 1
second_word first [] command above other form = absurd (omega (arith, above))
second_word first (second ∷ rest) command above other form =
    record {
      no_form = λ given given_form. never given rest given_form;
      within = omega arith;
      begins = (command, [], form);
      stops = λ below begins. never begins.0 begins.1 begins.2;
    }
  where
    never : (given : Command) (others : List (List ℕ)) → IsForm given (first ∷ second ∷ others) → ⊥
    never given others given_form = elim (form_parts given first (second ∷ others) given_form) [
      | inl is ↦ omega (arith, ap length is.1)
      | inr takes ↦ other takes
    ]

-- ---- an argument that takes another

-- a form that begins with this argument, and goes on, has one more, of which P holds; there is such a form
module _ (name : List ℕ) (P : List ℕ → Type 0)
    (after : (command : Command) (word : List ℕ) (more : List (List ℕ)) → IsForm command (name ∷ word ∷ more) → (more ≡ []) × P word)
    (some : (word : List ℕ) × (command : Command) × IsForm command (name ∷ word ∷ [])) where
  -- the argument after it is none of those
  pub wrong_after : (word : List ℕ) (rest : List (List ℕ)) → (P word → ⊥) → IsUsage (name ∷ word ∷ rest) 1
  wrong_after word rest not = record {
    no_form = λ command form. not (after command word rest form).1;
    within = omega arith;
    begins = (some.1, some.0 ∷ [], some.2);
    stops = λ below begins. not (after begins.0 word begins.1 begins.2).1;
  }

  -- a third argument follows
  pub third_after : (word : List ℕ) (more : List (List ℕ)) (command : Command) → 0 < length more → IsForm command (name ∷ word ∷ [])
      → IsUsage (name ∷ word ∷ more) 2
  third_after word [] command above form = absurd (omega (arith, above))
  third_after word (third ∷ rest) command above form = record {
    no_form = λ given given_form. omega (arith, ap length (after given word (third ∷ rest) given_form).0);
    within = omega arith;
    begins = (command, [], form);
    stops = λ below begins. omega (arith, ap length (after begins.0 word (third ∷ begins.1) begins.2).0);
  }

-- forms that begin with this argument go on with one argument of which P holds; there is such a form
module _ (name : List ℕ) (P : List ℕ → Type 0)
    (other : (command : Command) (rest : List (List ℕ)) → IsForm command (name ∷ rest) → (word : List ℕ) × (rest ≡ word ∷ []) × P word)
    (some : (word : List ℕ) × (command : Command) × IsForm command (name ∷ word ∷ [])) where
  -- it stands alone
  pub stands_alone : IsUsage (name ∷ []) 1
  stands_alone = record {
    no_form = λ command form. omega (arith, ap length (other command [] form).1);
    within = omega arith;
    begins = (some.1, some.0 ∷ [], some.2);
    stops = λ below begins. omega (arith, below);
  }

  after_it : (command : Command) (word : List ℕ) (more : List (List ℕ)) → IsForm command (name ∷ word ∷ more) → (more ≡ []) × P word
  after_it command word more form =
      let parts = other command (word ∷ more) form in
      let same : parts.0 ≡ word = ap (λ arguments. get_or arguments 0 []) (sym parts.1) in
      (ap (drop 1) parts.1, subst P same parts.2)

  pub wrong_other : (word : List ℕ) (rest : List (List ℕ)) → (P word → ⊥) → IsUsage (name ∷ word ∷ rest) 1
  wrong_other = wrong_after name P after_it some

  pub third_word : (word : List ℕ) (more : List (List ℕ)) (command : Command) → 0 < length more → IsForm command (name ∷ word ∷ [])
      → IsUsage (name ∷ word ∷ more) 2
  third_word = third_after name P after_it some

abbrev pub IsAnyCount : List ℕ → Type 0
IsAnyCount word = (count : ℕ) × IsCount word count

pub generate_form : (command : Command) (rest : List (List ℕ)) → IsForm command (codes "generate" ∷ rest)
    → (word : List ℕ) × (rest ≡ word ∷ []) × IsAnyCount word
generate_form Test rest form = absurd (omega (arith, ap first_letter form))
generate_form Check rest form = absurd (omega (arith, ap first_letter form))
generate_form Order rest form = absurd (omega (arith, ap first_letter form))
generate_form Canon rest form = absurd (omega (arith, ap first_letter form))
generate_form Checksum rest form = absurd (omega (arith, ap first_letter form))
generate_form (Compile node) rest (is, named) = absurd (omega (arith, ap first_letter is))
generate_form (Generate count) rest (word, is, counted) = (word, ap (drop 1) is, (count, counted))
generate_form (Init agent) rest (word, is, named) = absurd (omega (arith, ap first_letter is))
generate_form Meta rest form = absurd (omega (arith, ap first_letter form))
generate_form (Register name) rest (is, named) = absurd (omega (arith, ap first_letter is))
generate_form Pull rest form = absurd (omega (arith, ap first_letter form))
generate_form (Push None) rest form = absurd (omega (arith, ap first_letter form))
generate_form (Push (Some name)) rest (is, named) = absurd (omega (arith, ap first_letter is))
generate_form Consistency rest form = absurd (omega (arith, ap first_letter form))
generate_form Boot rest form = absurd (omega (arith, ap first_letter form))
generate_form Get rest form = absurd (omega (arith, ap first_length form))
generate_form Restore rest form = absurd (omega (arith, ap first_letter form))
generate_form (Remove stage) rest (word, is, named) = absurd (omega (arith, ap first_letter is))
generate_form Reports rest form = absurd (omega (arith, ap first_letter form))

pub some_generate : (word : List ℕ) × (command : Command) × IsForm command (codes "generate" ∷ word ∷ [])
some_generate = (decimal 1, Generate 1, (decimal 1, refl, (refl, omega arith, omega arith)))

abbrev pub IsAnyAgent : List ℕ → Type 0
IsAnyAgent word = (agent : ℕ) × IsAgent word agent

pub init_form : (command : Command) (rest : List (List ℕ)) → IsForm command (codes "init" ∷ rest)
    → (word : List ℕ) × (rest ≡ word ∷ []) × IsAnyAgent word
init_form Test rest form = absurd (omega (arith, ap first_letter form))
init_form Check rest form = absurd (omega (arith, ap first_letter form))
init_form Order rest form = absurd (omega (arith, ap first_letter form))
init_form Canon rest form = absurd (omega (arith, ap first_letter form))
init_form Checksum rest form = absurd (omega (arith, ap first_letter form))
init_form (Compile node) rest (is, named) = absurd (omega (arith, ap first_letter is))
init_form (Generate count) rest (word, is, counted) = absurd (omega (arith, ap first_letter is))
init_form (Init agent) rest (word, is, named) = (word, ap (drop 1) is, (agent, named))
init_form Meta rest form = absurd (omega (arith, ap first_letter form))
init_form (Register name) rest (is, named) = absurd (omega (arith, ap first_letter is))
init_form Pull rest form = absurd (omega (arith, ap first_letter form))
init_form (Push None) rest form = absurd (omega (arith, ap first_letter form))
init_form (Push (Some name)) rest (is, named) = absurd (omega (arith, ap first_letter is))
init_form Consistency rest form = absurd (omega (arith, ap first_letter form))
init_form Boot rest form = absurd (omega (arith, ap first_letter form))
init_form Get rest form = absurd (omega (arith, ap first_letter form))
init_form Restore rest form = absurd (omega (arith, ap first_letter form))
init_form (Remove stage) rest (word, is, named) = absurd (omega (arith, ap first_letter is))
init_form Reports rest form = absurd (omega (arith, ap first_letter form))

zeros : List ℕ
zeros = codes "00000000000000000000000000000000"

agent_of_zeros : agent_of zeros ≡ Some 0
unfolding agent_of zeros uuid_on_literals
agent_of_zeros = refl

pub some_init : (word : List ℕ) × (command : Command) × IsForm command (codes "init" ∷ word ∷ [])
some_init = (zeros, Init 0, (zeros, refl, agent_of_zeros))

abbrev pub IsAnyStage : List ℕ → Type 0
IsAnyStage word = (stage : Stage) × IsStage word stage

pub remove_form : (command : Command) (rest : List (List ℕ)) → IsForm command (codes "remove" ∷ rest)
    → (word : List ℕ) × (rest ≡ word ∷ []) × IsAnyStage word
remove_form Test rest form = absurd (omega (arith, ap first_letter form))
remove_form Check rest form = absurd (omega (arith, ap first_letter form))
remove_form Order rest form = absurd (omega (arith, ap first_letter form))
remove_form Canon rest form = absurd (omega (arith, ap first_letter form))
remove_form Checksum rest form = absurd (omega (arith, ap first_letter form))
remove_form (Compile node) rest (is, named) = absurd (omega (arith, ap first_letter is))
remove_form (Generate count) rest (word, is, counted) = absurd (omega (arith, ap first_letter is))
remove_form (Init agent) rest (word, is, named) = absurd (omega (arith, ap first_letter is))
remove_form Meta rest form = absurd (omega (arith, ap first_letter form))
remove_form (Register name) rest (is, named) = absurd (omega (arith, ap first_length is))
remove_form Pull rest form = absurd (omega (arith, ap first_letter form))
remove_form (Push None) rest form = absurd (omega (arith, ap first_letter form))
remove_form (Push (Some name)) rest (is, named) = absurd (omega (arith, ap first_letter is))
remove_form Consistency rest form = absurd (omega (arith, ap first_letter form))
remove_form Boot rest form = absurd (omega (arith, ap first_letter form))
remove_form Get rest form = absurd (omega (arith, ap first_letter form))
remove_form Restore rest form = absurd (omega (arith, ap first_length form))
remove_form (Remove stage) rest (word, is, named) = (word, ap (drop 1) is, (stage, named))
remove_form Reports rest form = absurd (omega (arith, ap first_length form))

pub some_remove : (word : List ℕ) × (command : Command) × IsForm command (codes "remove" ∷ word ∷ [])
some_remove = (codes "pending", Remove Pending, (codes "pending", refl, refl))

pub register_form : (command : Command) (rest : List (List ℕ)) → IsForm command (codes "register" ∷ rest)
    → (word : List ℕ) × (rest ≡ word ∷ []) × IsName word
register_form Test rest form = absurd (omega (arith, ap first_letter form))
register_form Check rest form = absurd (omega (arith, ap first_letter form))
register_form Order rest form = absurd (omega (arith, ap first_letter form))
register_form Canon rest form = absurd (omega (arith, ap first_letter form))
register_form Checksum rest form = absurd (omega (arith, ap first_letter form))
register_form (Compile node) rest (is, named) = absurd (omega (arith, ap first_letter is))
register_form (Generate count) rest (word, is, counted) = absurd (omega (arith, ap first_letter is))
register_form (Init agent) rest (word, is, named) = absurd (omega (arith, ap first_letter is))
register_form Meta rest form = absurd (omega (arith, ap first_letter form))
register_form (Register name) rest (is, named) = (name.now, ap (drop 1) is, named)
register_form Pull rest form = absurd (omega (arith, ap first_letter form))
register_form (Push None) rest form = absurd (omega (arith, ap first_letter form))
register_form (Push (Some name)) rest (is, named) = absurd (omega (arith, ap first_letter is))
register_form Consistency rest form = absurd (omega (arith, ap first_letter form))
register_form Boot rest form = absurd (omega (arith, ap first_letter form))
register_form Get rest form = absurd (omega (arith, ap first_letter form))
register_form Restore rest form = absurd (omega (arith, ap first_length form))
register_form (Remove stage) rest (word, is, named) = absurd (omega (arith, ap first_length is))
register_form Reports rest form = absurd (omega (arith, ap first_length form))

pub some_register : (word : List ℕ) × (command : Command) × IsForm command (codes "register" ∷ word ∷ [])
some_register = (codes "n", Register (record { ref_ptr = (0, 0); now = codes "n" }), (refl, (omega arith, omega arith)))

pub compile_form : (command : Command) (rest : List (List ℕ)) → IsForm command (codes "compile" ∷ rest)
    → (word : List ℕ) × (rest ≡ word ∷ []) × IsName word
compile_form Test rest form = absurd (omega (arith, ap first_letter form))
compile_form Check rest form = absurd (omega (arith, ap first_length form))
compile_form Order rest form = absurd (omega (arith, ap first_letter form))
compile_form Canon rest form = absurd (omega (arith, ap first_length form))
compile_form Checksum rest form = absurd (omega (arith, ap first_length form))
compile_form (Compile node) rest (is, named) = (node.now, ap (drop 1) is, named)
compile_form (Generate count) rest (word, is, counted) = absurd (omega (arith, ap first_letter is))
compile_form (Init agent) rest (word, is, named) = absurd (omega (arith, ap first_letter is))
compile_form Meta rest form = absurd (omega (arith, ap first_letter form))
compile_form (Register name) rest (is, named) = absurd (omega (arith, ap first_letter is))
compile_form Pull rest form = absurd (omega (arith, ap first_letter form))
compile_form (Push None) rest form = absurd (omega (arith, ap first_letter form))
compile_form (Push (Some name)) rest (is, named) = absurd (omega (arith, ap first_letter is))
compile_form Consistency rest form = absurd (omega (arith, ap first_length form))
compile_form Boot rest form = absurd (omega (arith, ap first_letter form))
compile_form Get rest form = absurd (omega (arith, ap first_letter form))
compile_form Restore rest form = absurd (omega (arith, ap first_letter form))
compile_form (Remove stage) rest (word, is, named) = absurd (omega (arith, ap first_letter is))
compile_form Reports rest form = absurd (omega (arith, ap first_letter form))

pub some_compile : (word : List ℕ) × (command : Command) × IsForm command (codes "compile" ∷ word ∷ [])
some_compile = (codes "n", Compile (record { ref_ptr = (0, 0); now = codes "n" }), (refl, (omega arith, omega arith)))

pub push_form : (command : Command) (word : List ℕ) (more : List (List ℕ)) → IsForm command (codes "push" ∷ word ∷ more) → (more ≡ []) × IsName word
push_form Test word more form = absurd (omega (arith, ap length form))
push_form Check word more form = absurd (omega (arith, ap length form))
push_form Order word more form = absurd (omega (arith, ap length form))
push_form Canon word more form = absurd (omega (arith, ap length form))
push_form Checksum word more form = absurd (omega (arith, ap length form))
push_form (Compile node) word more (is, named) = absurd (omega (arith, ap first_letter is))
push_form (Generate count) word more (given, is, counted) = absurd (omega (arith, ap first_letter is))
push_form (Init agent) word more (given, is, named) = absurd (omega (arith, ap first_letter is))
push_form Meta word more form = absurd (omega (arith, ap length form))
push_form (Register name) word more (is, named) = absurd (omega (arith, ap first_letter is))
push_form Pull word more form = absurd (omega (arith, ap length form))
push_form (Push None) word more form = absurd (omega (arith, ap length form))
push_form (Push (Some name)) word more (is, named) =
    let same : name.now ≡ word = ap (λ arguments. get_or arguments 1 []) (sym is) in
    (ap (drop 2) is, subst IsName same named)
push_form Consistency word more form = absurd (omega (arith, ap length form))
push_form Boot word more form = absurd (omega (arith, ap length form))
push_form Get word more form = absurd (omega (arith, ap length form))
push_form Restore word more form = absurd (omega (arith, ap length form))
push_form (Remove stage) word more (given, is, named) = absurd (omega (arith, ap first_letter is))
push_form Reports word more form = absurd (omega (arith, ap length form))

pub some_push : (word : List ℕ) × (command : Command) × IsForm command (codes "push" ∷ word ∷ [])
some_push = (codes "n", Push (Some (record { ref_ptr = (0, 0); now = codes "n" })), (refl, (omega arith, omega arith)))

-- arguments as the bytes of the texts that were handed over
module _ {X : Type 0} (f : X → List ℕ) where
  pub no_texts : (texts : List X) → length texts < 1 → map f texts ≡ []
  no_texts [] below = refl
  no_texts (text ∷ more) below = absurd (omega (arith, below))

  pub first_and_rest : (texts : List X) (first : X) (word : List ℕ) → 1 ≤ length texts → first ≡ get_or texts 0 first → word ≡ f first
      → word ∷ map f (take (length texts - 1) (drop 1 texts)) ≡ map f texts
  first_and_rest [] first word some is same = absurd (omega (arith, some))
  first_and_rest (text ∷ more) first word some is same =
      ap₂ (λ (w : List ℕ) (ws : List X). w ∷ map f ws) (same ∙ ap f is) (take_all (length (text ∷ more) - 1) more (omega arith))
