-- Domains made part by part, and one after the other.
use Rattle.std.proofs.Common.{◌≡◌, ℕ, zero, suc, ◌+◌, Bool, List, [], ◌∷◌, ◌++◌, length, ℤ, refl, sym, ap, ap₂, ◌∙◌, add-one, length-append}
use Rattle.wf_model.specs.declared.config.Config.{Config}
use Rattle.wf_model.specs.declared.plan.Domain.{Domain}
use Rattle.wf_model.specs.declared.plan.Field.{Field}
use Rattle.wf_model.specs.declared.plan.Item.{Item}
use Rattle.wf_model.specs.declared.plan.Plan.{Plan}
use Rattle.wf_model.specs.PlanDomains.{domain_from, domains_to}

-- a domain is known by its parts
pub same_domain : {parent parent' i_start i_start' j_start j_start' ratio ratio' time_ratio time_ratio' ide ide' jde jde' kde kde' seconds seconds' : ℕ} {begins begins' : ℤ}
    {periodic_x periodic_x' periodic_y periodic_y' from_file from_file' : Bool} {intervals intervals' frames frames' : List ℕ}
    → parent ≡ parent' → i_start ≡ i_start' → j_start ≡ j_start' → ratio ≡ ratio' → time_ratio ≡ time_ratio' → ide ≡ ide' → jde ≡ jde' → kde ≡ kde' → seconds ≡ seconds' → begins ≡ begins'
    → periodic_x ≡ periodic_x' → periodic_y ≡ periodic_y' → from_file ≡ from_file' → intervals ≡ intervals' → frames ≡ frames'
    → (let d : Domain = record {
      parent = parent;
      i_start = i_start;
      j_start = j_start;
      ratio = ratio;
      time_ratio = time_ratio;
      ide = ide;
      jde = jde;
      kde = kde;
      seconds = seconds;
      begins = begins;
      periodic_x = periodic_x;
      periodic_y = periodic_y;
      from_file = from_file;
      intervals = intervals;
      frames = frames;
    } in d) ≡ record {
      parent = parent';
      i_start = i_start';
      j_start = j_start';
      ratio = ratio';
      time_ratio = time_ratio';
      ide = ide';
      jde = jde';
      kde = kde';
      seconds = seconds';
      begins = begins';
      periodic_x = periodic_x';
      periodic_y = periodic_y';
      from_file = from_file';
      intervals = intervals';
      frames = frames';
    }
same_domain a b c d e f g h i j k l m n o = cc

-- no domain is made yet
pub none_made : (config : Config) → domains_to config 0 ≡ []
unfolding domains_to
none_made config = refl

-- one more is made from those before it
pub one_made : (config : Config) (made : List Domain) (n : ℕ) (d : Domain) → made ≡ domains_to config n → d ≡ domain_from config made (n + 1) → made ++ d ∷ [] ≡ domains_to config (n + 1)
unfolding domains_to
one_made config made n d so_far is =
    ap₂ (λ xs x. xs ++ x ∷ []) so_far (is ∙ ap (λ xs. domain_from config xs (n + 1)) so_far) ∙ ap (domains_to config) (sym (add-one n))

-- so many domains are as many
pub length-domains_to : (config : Config) (n : ℕ) → length (domains_to config n) ≡ n
unfolding domains_to
length-domains_to config zero = refl
length-domains_to config (suc n) =
    length-append (domains_to config n) (domain_from config (domains_to config n) (n + 1) ∷ []) ∙ ap (λ m. m + 1) (length-domains_to config n) ∙ add-one n

-- a plan is known by its parts
pub same_plan : {domains domains' : List Domain} {fields fields' : List Field} {items items' : List Item} {start start' : List ℕ} {steps steps' restart_steps restart_steps' : ℕ} {restart restart' feedback feedback' : Bool}
    {bdy_width bdy_width' : ℕ}
    → domains ≡ domains' → fields ≡ fields' → items ≡ items' → start ≡ start' → steps ≡ steps' → restart_steps ≡ restart_steps' → restart ≡ restart' → feedback ≡ feedback' → bdy_width ≡ bdy_width'
    → (let p : Plan = record {
      domains = domains;
      fields = fields;
      items = items;
      start = start;
      steps = steps;
      restart_steps = restart_steps;
      restart = restart;
      feedback = feedback;
      bdy_width = bdy_width;
      version = 1;
    } in p) ≡ record {
      domains = domains';
      fields = fields';
      items = items';
      start = start';
      steps = steps';
      restart_steps = restart_steps';
      restart = restart';
      feedback = feedback';
      bdy_width = bdy_width';
      version = 1;
    }
same_plan a b c d e f g h i = cc
