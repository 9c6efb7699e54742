pub mod inner
pub mod Catalogue
pub mod Generators
pub mod NameSets
pub mod Names
pub mod Signs
pub mod Tables
pub mod Words
