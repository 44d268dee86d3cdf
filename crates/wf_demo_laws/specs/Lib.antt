pub mod DemoLaws
