-- Faults of a store, told by an error.
use Rattle.std.proofs.Common.{◌≡◌, ◌∙◌, sym, ap, refl, subst, ℕ, ◌≤◌, List, Option, Some, None, Contains, IsTrue, Result, Ok, Err, IfErr}
use Rattle.std.specs.Result.{IsErrOf}
use Rattle.wf_io.specs.declared.store.IoError.{IoError}
use Rattle.wf_io.specs.declared.store.IoError.TheVariants as io
use Rattle.wf_io.specs.Files.{Counted, failed_name}
use Rattle.wf_model.specs.declared.registry.SourceFile.{SourceFile}
use Rattle.wf_model.specs.declared.registry.RegistryFault.{RegistryFault}
use Rattle.wf_model.specs.Letters.{Text, is_store_name}
use Rattle.wf_model.specs.KeptLines.{Defines, main_file, most_files}
use Rattle.wf_model.specs.Registry.{registry_of}
use Rattle.wf_model.specs.Refusals.{Refusal}
use Rattle.wf_model.specs.Files.{Files}
use Rattle.wf_model.specs.Reading.{Fails}
use Rattle.wf_model.specs.FilesRead.{wanted, main_source}
use Rattle.wf_setup.specs.declared.error.SetupError.{SetupError}
use Rattle.wf_setup.specs.declared.error.SetupError.TheVariants as setup
use Rattle.wf_setup.specs.Errors.{refusal_of, Tells, NoFault, FaultOn, FaultTold, IsIoError}
use Rattle.wf_setup.specs.Asked.{IsWanted, FaultAmong, FaultWanted, FaultOnWanted, includes_asked, registry_names}
use Rattle.wf_setup.proofs.Stores.{rose_later}
use Rattle.wf_setup.proofs.Steps.{include_asked}

-- ---- an error that tells a refusal is no fault

pub tells_no_fault : (e : SetupError) (x : Refusal) → Tells e x → NoFault e
tells_no_fault (setup.Refused r) x tells = tt
tells_no_fault (setup.Store name) x tells = tells
tells_no_fault setup.Memory x tells = tt

pub told_of_none : (e : SetupError) (i j : ℕ) (f : Text) → NoFault e → FaultTold e i j f
told_of_none (setup.Refused r) i j f none = tt
told_of_none (setup.Store name) i j f none = absurd none
told_of_none setup.Memory i j f none = tt

pub on_of_none : (e : SetupError) (f : Text) → NoFault e → FaultOn e f
on_of_none (setup.Refused r) f none = tt
on_of_none (setup.Store name) f none = absurd none
on_of_none setup.Memory f none = tt

pub among_of_none : (e : SetupError) (names : List Text) → NoFault e → FaultAmong e names
among_of_none (setup.Refused r) names none = tt
among_of_none (setup.Store name) names none = absurd none
among_of_none setup.Memory names none = tt

pub wanted_of_none : (e : SetupError) (have : List SourceFile) (defines : Defines) → NoFault e → FaultWanted e have defines
wanted_of_none (setup.Refused r) have defines none = tt
wanted_of_none (setup.Store name) have defines none = absurd none
wanted_of_none setup.Memory have defines none = tt

-- ---- an error of a call of a store

pub io_free : (error : IoError) (file : Text) (e : SetupError) → IsIoError error file e → refusal_of e ≡ None
io_free error file (setup.Refused r) is = absurd is
io_free error file (setup.Store name) is = refl
io_free error file setup.Memory is = refl

pub io_on : (error : IoError) (file : Text) (e : SetupError) → IsIoError error file e → FaultOn e file
io_on error file (setup.Refused r) is = absurd is
io_on error file (setup.Store name) is = is.1
io_on error file setup.Memory is = tt

pub io_told : {X : Type 0} (error : IoError) (file : Text) (e : SetupError) (i j : ℕ) (f : Text) (result : Result X IoError)
    → result ≡ Err error → Counted i j result → f ≡ failed_name result file → IsIoError error file e → FaultTold e i j f
io_told error file (setup.Refused r) i j f result was counted failed is = absurd is
io_told {X} error file (setup.Store name) i j f result was counted failed is =
    let fault : IsErrOf result io.Fault = was ∙ ap (λ (x : IoError). let r : Result X IoError = Err x in r) is.0 in
    record { rose = counted.rose fault; last = failed ∙ ap (λ (r : Result X IoError). failed_name r file) fault ∙ sym is.1 }
io_told error file setup.Memory i j f result was counted failed is = tt

-- ---- along a chain

pub told_later : (e : SetupError) (i j k : ℕ) (f : Text) → i ≤ j → FaultTold e j k f → FaultTold e i k f
told_later (setup.Refused r) i j k f most told = tt
told_later (setup.Store name) i j k f most told = record { rose = rose_later i j k most told.rose; last = told.last }
told_later setup.Memory i j k f most told = tt

-- a fault is on a file that is among the names
pub among_from : (e : SetupError) (names others : List Text) → ((q : Text) → Contains names q → Contains others q) → FaultAmong e names → FaultAmong e others
among_from (setup.Refused r) names others more among = tt
among_from (setup.Store name) names others more among = more name among
among_from setup.Memory names others more among = tt

pub among_on : (e : SetupError) (file : Text) (names : List Text) → Contains names file → FaultOn e file → FaultAmong e names
among_on (setup.Refused r) file names there on = tt
among_on (setup.Store name) file names there on = subst (λ (q : Text). Contains names q) (sym on) there
among_on setup.Memory file names there on = tt

pub among_wanted : (e : SetupError) (have : List SourceFile) (defines : Defines) (names : List Text) → ((q : Text) → IsWanted have defines q → Contains names q) → FaultWanted e have defines → FaultAmong e names
among_wanted (setup.Refused r) have defines names more w = tt
among_wanted (setup.Store name) have defines names more w = more name w
among_wanted setup.Memory have defines names more w = tt

-- a fault on the file that a Registry's fault wants
pub wanted_on : (e : SetupError) (f : RegistryFault) (name file : Text) → Some name ≡ wanted f.kind → file ≡ name → IsTrue (is_store_name name) → FaultOn e file → FaultOnWanted e f
wanted_on (setup.Refused r) f name file is same takes on = tt
wanted_on (setup.Store other) f name file is same takes on =
    let e : other ≡ name = on ∙ same in
    (sym is ∙ ap (λ (q : Text). Some q) (sym e), subst (λ (q : Text). IsTrue (is_store_name q)) (sym e) takes)
wanted_on setup.Memory f name file is same takes on = tt

pub wanted_is : (e : SetupError) (have : List SourceFile) (defines : Defines) (f : RegistryFault) → registry_of have defines ≡ Err f → FaultOnWanted e f → FaultWanted e have defines
wanted_is (setup.Refused r) have defines f is on = tt
wanted_is (setup.Store name) have defines f is on = record { fault = f; refused = is; wants = on.0; takes = on.1 }
wanted_is setup.Memory have defines f is on = tt

-- an error without a refusal may stand for any reading
pub fails_free : {Y : Type 0} (e : SetupError) (read : Result Y Refusal) → refusal_of e ≡ None → Fails (refusal_of e) read
fails_free (setup.Refused r) read free = absurd (cc free)
fails_free (setup.Store name) read free = tt
fails_free setup.Memory read free = tt

pub found_on : {X : Type 0} (f : RegistryFault) (name other : Text) (result : Result X SetupError)
    → Some name ≡ wanted f.kind → other ≡ name → IsTrue (is_store_name name) → IfErr result (λ e. FaultOn e other) → IfErr result (λ e. FaultOnWanted e f)
found_on f name other (Ok x) is same takes on = tt
found_on f name other (Err e) is same takes on = wanted_on e f name other is same takes on

-- the includes of a store are among the files of its Registry
pub asked_includes : {X : Type 0} (a b : Option Files) (result : Result X SetupError) (defines : Defines) (have : List SourceFile)
    → ((m : Files) → a ≡ Some m → b ≡ Some m) → ((m : Files) → a ≡ Some m → have ≡ main_source (m main_file))
    → IfErr result (λ e. (m : Files) → b ≡ Some m → FaultAmong e (includes_asked most_files m defines have)) → IfErr result (λ e. (m : Files) → a ≡ Some m → FaultAmong e (registry_names m defines))
asked_includes a b (Ok x) defines have still is asked = tt
asked_includes a b (Err e) defines have still is asked = λ m told.
    among_from e (includes_asked most_files m defines have) (registry_names m defines) (λ q. include_asked m defines have q (is m told)) (asked m (still m told))
