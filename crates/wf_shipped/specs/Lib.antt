pub mod Shipping
