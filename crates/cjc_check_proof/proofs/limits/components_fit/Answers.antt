use Rattle.cjc_check_proof.proofs.LimitsLaws.Package.{applet_fits, header_fits, import_fits}
use Rattle.cjc_check_proof.proofs.LimitsLaws.Pool.{pool_fits}
use Rattle.cjc_check_proof.proofs.LimitsLaws.Statics.{statics_fit}
use Rattle.cjc_check_proof.proofs.LimitsLaws.Locations.{locations_fit}
use Rattle.cjc_check_proof.proofs.LimitsLaws.Exports.{export_fits}
use Rattle.cjc_check_proof.proofs.LimitsLaws.Classes.{classes_fit}
use Rattle.cjc_check_proof.proofs.LimitsLaws.Methods.{method_fits}
use Rattle.cjc_check_proof.proofs.LimitsLaws.Described.{descriptor_fits}
use Rattle.cjc_check_proof.proofs.LimitsLaws.Whole.{all_fit, directory_fits}
use Rattle.cjc_check_proof.proofs.limits.components_fit.Goals as goal

pub returns-clause-header : goal.returns-clause-header
returns-clause-header c p h = header_fits p h

pub returns-clause-applet : goal.returns-clause-applet
returns-clause-applet c p h = applet_fits p h

pub returns-clause-import : goal.returns-clause-import
returns-clause-import c p h = import_fits p h

pub returns-clause-pool : goal.returns-clause-pool
returns-clause-pool c p h = pool_fits p h

pub returns-clause-class : goal.returns-clause-class
returns-clause-class c p h = classes_fit p h

pub returns-clause-statics : goal.returns-clause-statics
returns-clause-statics c p h = statics_fit p h

pub returns-clause-locations : goal.returns-clause-locations
returns-clause-locations c p h = locations_fit p h

pub returns-clause-export : goal.returns-clause-export
returns-clause-export c p h = export_fits p h

pub returns-clause-method : goal.returns-clause-method
returns-clause-method c p h = method_fits p h

pub returns-clause-descriptor : goal.returns-clause-descriptor
returns-clause-descriptor c p h = descriptor_fits p h

pub returns-clause-directory : goal.returns-clause-directory
returns-clause-directory c p h = directory_fits p h

pub returns-clause-all : goal.returns-clause-all
returns-clause-all c p h = all_fit p h
